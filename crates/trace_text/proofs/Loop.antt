-- Lines one after the other, as a loop reads them.
use Rattle.std.proofs.Common.{◌≡◌, ◌==◌, ◌<◌, ℕ, List, [], ◌∷◌, ◌++◌, length, Ok, Err, Some, None, refl, arith}
use Rattle.std.specs.List.{slice_split}
use Rattle.std.proofs.lemmas.Bool.{ne_eqb}
use Rattle.trace_text.specs.declared.fault.BadWhy.{BadWhy}
use Rattle.trace_text.specs.declared.fault.BadWhy.TheVariants.{Cut, Header}
use Rattle.trace_text.specs.declared.trace.Line.{Line}
use Rattle.trace_text.specs.Grammar.{fields_of, place_after, line_of, whole, faulty, go_on, lines_after, version_of, after_header, reading_of}
use Rattle.trace_text.proofs.Cuts.{split_cons}

abbrev pub parts_of : List ℕ → List (List ℕ)
parts_of text = slice_split (λ b. b == 10) text

pub lines_end : (version : ℕ) (before : List Line) (text : List ℕ) → length text ≡ 0 → lines_after version before (parts_of text) ≡ whole version before
unfolding lines_after
lines_end version before [] e = refl
lines_end version before (b ∷ bs) e = absurd (omega arith)

pub lines_cut : (version : ℕ) (before : List Line) (place : ℕ) (text : List ℕ) → place ≡ place_after before → 0 < length text → parts_of text ≡ text ∷ [] → lines_after version before (parts_of text) ≡ faulty place Cut
unfolding lines_after
lines_cut version before place text at some e = rw (e, at, ne_eqb (length text) 0 (λ none. absurd (omega (arith, none)))) refl

lines_step : (version : ℕ) (before : List Line) (rest text behind : List ℕ) → parts_of rest ≡ text ∷ parts_of behind → lines_after version before (parts_of rest) ≡ go_on before (line_of version before (fields_of text)) (λ so_far. lines_after version so_far (parts_of behind))
unfolding lines_after
lines_step version before rest text behind e =
    let parts = split_cons (λ b. b == 10) behind in
    rw (e, parts.2) refl

pub lines_more : (version : ℕ) (before : List Line) (rest text behind : List ℕ) (line : Line) → parts_of rest ≡ text ∷ parts_of behind → line_of version before (fields_of text) ≡ Ok line → lines_after version before (parts_of rest) ≡ lines_after version (before ++ line ∷ []) (parts_of behind)
lines_more version before rest text behind line e found = rw (lines_step version before rest text behind e, found) refl

pub lines_stop : (version : ℕ) (before : List Line) (place : ℕ) (rest text behind : List ℕ) (why : BadWhy) → place ≡ place_after before → parts_of rest ≡ text ∷ parts_of behind → line_of version before (fields_of text) ≡ Err why → lines_after version before (parts_of rest) ≡ faulty place why
lines_stop version before place rest text behind why at e found = rw (lines_step version before rest text behind e, found, at) refl

pub reads_nothing : (bytes : List ℕ) → parts_of bytes ≡ bytes ∷ [] → reading_of bytes ≡ faulty 1 Cut
unfolding reading_of
reads_nothing bytes e = rw e refl

reads_headed : (bytes first body : List ℕ) → parts_of bytes ≡ first ∷ parts_of body → reading_of bytes ≡ after_header (version_of first) (parts_of body)
unfolding reading_of
reads_headed bytes first body e =
    let parts = split_cons (λ b. b == 10) body in
    rw (e, parts.2) refl

pub reads_body : (bytes first body : List ℕ) (version : ℕ) → parts_of bytes ≡ first ∷ parts_of body → version_of first ≡ Some version → reading_of bytes ≡ lines_after version [] (parts_of body)
reads_body bytes first body version e is = rw (reads_headed bytes first body e, is) refl

pub reads_no_header : (bytes first body : List ℕ) → parts_of bytes ≡ first ∷ parts_of body → version_of first ≡ None → reading_of bytes ≡ faulty 1 Header
reads_no_header bytes first body e none = rw (reads_headed bytes first body e, none) refl
