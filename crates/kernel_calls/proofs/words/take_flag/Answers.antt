use Rattle.std.proofs.Common.{◌≡◌, ℕ, ◌+◌, ◌<◌, length, List, [], ◌∷◌, drop, sym, arith}
use Rattle.std.specs.Prelude.{String, Some, not, ◌&&◌}
use Rattle.std.specs.List.{zip}
use Rattle.std.specs.String.{string_bytes}
use Rattle.std.proofs.lemmas.List.{length-drop}
use Rattle.std.proofs.lemmas.List.Quantifiers.{position-Some}
use Rattle.std.proofs.lemmas.Slice.Zip.{length-zip}
use Rattle.kernel_calls.specs.Words.{is_flag, has_next, flag_place}
use Rattle.kernel_calls.proofs.words.take_flag.Goals as goal

-- the word is behind the name and among the words
place_inside : {A : Type 0} (words : List (String A)) (place : ℕ) → flag_place words ≡ Some place → place + 1 < length words
unfolding flag_place
place_inside [] place e = absurd cc
place_inside (name ∷ behind) place e =
    let inside = (position-Some (λ pair. is_flag pair.1 && not (has_next (string_bytes pair.0))) (zip (name ∷ behind) (drop 1 (name ∷ behind))) place (name, name) e).0 in
    omega (arith, length-zip (name ∷ behind) (drop 1 (name ∷ behind)), length-drop 1 (name ∷ behind))

pub overflow_add-place : goal.overflow_add-place
overflow_add-place c =
    let inside = place_inside _ _ (sym c.in-Some.ensures) in
    omega (arith, c.as_slice.ensures.len)

pub remove-requires : goal.remove-requires
remove-requires c =
    let inside = place_inside _ _ (sym c.in-Some.ensures) in
    omega (arith, c.as_slice.ensures.len)
