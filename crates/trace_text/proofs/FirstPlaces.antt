-- The first byte that passes a test, as a search finds it.
use Rattle.std.proofs.Common.{◌≡◌, ℕ, Bool, true, false, List, length, get_or, Option, Some, None, refl, arith}
use Rattle.std.specs.List.{position, position_or_len}
use Rattle.std.proofs.lemmas.Bool.{lt-ltb, le-ltb}
use Rattle.std.proofs.lemmas.List.Sums.{position_or_len_is}
use Rattle.memchr.specs.Find.{IsFirstByte}

fails : (b : Bool) → (b ≡ true → ⊥) → b ≡ false
fails true h = absurd (h refl)
fails false h = refl

pub first_place : (test : ℕ → Bool) (text : List ℕ) (r : Option ℕ) → IsFirstByte test text r → r ≡ position test text
first_place test text None none =
    let is : position_or_len test text ≡ length text =
    position_or_len_is test text (length text) 0 (omega arith) (λ k lt. fails (test (get_or text k 0)) (none k (omega arith) lt)) (λ no. absurd (omega arith)) in
    rw (is, le-ltb (length text) (length text) (omega arith)) refl
first_place test text (Some k) found =
    let is : position_or_len test text ≡ k =
    position_or_len_is test text k 0 (omega (arith, found.0.high)) (λ j lt. fails (test (get_or text j 0)) (found.0.before j (omega arith) lt)) (λ lt. found.1) in
    rw (is, lt-ltb k (length text) found.0.high) refl
