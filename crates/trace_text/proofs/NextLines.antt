-- The next of lines, and those in front of it and behind it.
use Rattle.std.proofs.Common.{◌≡◌, ℕ, ◌+◌, List, [], ◌∷◌, ◌++◌, Some, slice_get, take, drop, ap, ◌∙◌, add-one}
use Rattle.std.proofs.Math.Seq.{drop-cons}
use Rattle.std.proofs.lemmas.List.{take_more}
use Rattle.std.proofs.lemmas.Option.{slice_get_within, get_or_from_slice_get}
use Rattle.trace_text.specs.declared.trace.Line.{Line}

pub take_next : (lines : List Line) (i : ℕ) (line : Line) → slice_get lines i ≡ Some line → take (i + 1) lines ≡ take i lines ++ line ∷ []
take_next lines i line at =
    take_more lines i line (slice_get_within lines i line at) ∙ ap (λ (l : Line). take i lines ++ l ∷ []) (get_or_from_slice_get lines i line line at)

pub drop_next : (lines : List Line) (i : ℕ) (line : Line) → slice_get lines i ≡ Some line → drop i lines ≡ line ∷ drop (i + 1) lines
drop_next lines i line at =
    rw add-one (drop-cons lines i line (slice_get_within lines i line at)) ∙ ap (λ (l : Line). l ∷ drop (i + 1) lines) (get_or_from_slice_get lines i line line at)
