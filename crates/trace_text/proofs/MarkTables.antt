-- Tables of marks, and the names that threads hold.
use Rattle.std.proofs.Common.{◌≡◌, ◌/◌, ◌%◌, ℕ, zero, suc, false, eqb, ltb, List, [], ◌∷◌, ◌++◌, get_or, replicate, refl, ap, ◌∙◌, inl, inr}
use Rattle.std.specs.Int.{bit_at}
use Rattle.std.proofs.lemmas.Bool.{cases_Bool}
use Rattle.std.proofs.lemmas.Nat.Bits.{bit_at-zero}
use Rattle.trace_text.specs.Marks.{has}
use Rattle.trace_text.specs.Names.{none_held, holds, holds_at}

none_at : (count i : ℕ) → get_or (replicate count none_held) i none_held ≡ none_held
none_at zero i = refl
none_at (suc count) zero = refl
none_at (suc count) (suc i) = none_at count i

-- a table without words has no mark
pub unmarked : (k : ℕ) → has [] k ≡ false
unmarked k = ap (λ bit. eqb bit 1) (bit_at-zero (k % 64))

none_of : (k : ℕ) → holds none_held k ≡ false
none_of k = elim (cases_Bool (ltb k 1048576)) [ inl near ↦ rw near (unmarked k) | inr far ↦ rw far refl ]

-- before any line, no thread holds a name
pub none_held_at : (count i k : ℕ) → holds_at (replicate count none_held) i k ≡ false
none_held_at count i k = ap (λ names. holds names k) (none_at count i) ∙ none_of k

empty_word : (words : List ℕ) (c i : ℕ) → get_or (words ++ replicate c 0) i 0 ≡ get_or words i 0
empty_word [] zero i = refl
empty_word [] (suc c) zero = refl
empty_word [] (suc c) (suc i) = empty_word [] c i
empty_word (w ∷ words) c zero = refl
empty_word (w ∷ words) c (suc i) = empty_word words c i

-- words that are added have no mark
pub filled : (words : List ℕ) (c k : ℕ) → has (words ++ replicate c 0) k ≡ has words k
filled words c k = ap (λ word. eqb (bit_at word (k % 64)) 1) (empty_word words c (k / 64))
