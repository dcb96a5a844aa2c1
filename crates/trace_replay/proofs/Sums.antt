-- Sums over a list of which one element changes, by the element that was there.
use Rattle.std.proofs.Common.{◌≡◌, ℕ, zero, suc, ◌+◌, ◌<◌, ◌≤◌, List, [], ◌∷◌, length, Some, ◌⊎◌, inl, inr, sum_by, refl, sym, ap, ◌∙◌, arith}
use Rattle.std.specs.Prelude.{slice_get, slice_set}
use Rattle.std.proofs.lemmas.List.{get_or-set_same, length-set}
use Rattle.std.proofs.lemmas.List.Sums.{sum_by-cons, sum_by-set}
use Rattle.std.proofs.lemmas.Option.{slice_get_within, get_or_from_slice_get, slice_get-get_or}
use Rattle.std.proofs.lemmas.Bool.Decides.{eqb_tells}

pub sum_changed : {X : Type 0} (f : X → ℕ) (xs : List X) (i : ℕ) (x y : X) → slice_get xs i ≡ Some x → sum_by f (slice_set xs i y) + f x ≡ sum_by f xs + f y
sum_changed f xs i x y at =
    let lt : i < length xs = slice_get_within xs i x at in
    omega (arith, sum_by-set f xs i y x lt, ap f (get_or_from_slice_get xs i x x at))

pub part_of_sum : {X : Type 0} (f : X → ℕ) (xs : List X) (i : ℕ) (x : X) → slice_get xs i ≡ Some x → f x ≤ sum_by f xs
part_of_sum f [] i x at = absurd cc
part_of_sum f (y ∷ ys) zero x at =
    let same : y ≡ x = cc in
    omega (arith, sum_by-cons f y ys, ap f same)
part_of_sum f (y ∷ ys) (suc i) x at = omega (arith, sum_by-cons f y ys, part_of_sum f ys i x at)

-- ---- what stands where

pub same_or_other : (j i : ℕ) → (j ≡ i) ⊎ (j ≡ i → ⊥)
same_or_other j i =
    elim (eqb_tells j i) [
      | inl same ↦ inl same.1
      | inr other ↦ inr other.1
    ]

pub there : {X : Type 0} (xs : List X) (i : ℕ) (y d : X) → i < length xs → slice_get (slice_set xs i y) i ≡ Some y
there xs i y d lt =
    let more : i < length (slice_set xs i y) = omega (arith, lt, length-set xs i y) in
    slice_get-get_or (slice_set xs i y) i d more ∙ ap Some (get_or-set_same xs i y d lt)

pub elsewhere : {X : Type 0} (xs : List X) (i j : ℕ) (y : X) → (j ≡ i → ⊥) → slice_get (slice_set xs i y) j ≡ slice_get xs j
elsewhere [] i j y other = refl
elsewhere (x ∷ xs) zero zero y other = absurd (other refl)
elsewhere (x ∷ xs) zero (suc j) y other = refl
elsewhere (x ∷ xs) (suc i) zero y other = refl
elsewhere (x ∷ xs) (suc i) (suc j) y other = elsewhere xs i j y (λ e. other (ap suc e))

-- each that stands somewhere is the new one, or stood there before
pub either_at : {X : Type 0} (xs : List X) (i j : ℕ) (y x : X) → i < length xs → slice_get (slice_set xs i y) j ≡ Some x → ((j ≡ i) × (x ≡ y)) ⊎ ((j ≡ i → ⊥) × (slice_get xs j ≡ Some x))
either_at xs i j y x lt at =
    elim (same_or_other j i) [
      | inl same ↦
          let here : slice_get (slice_set xs i y) j ≡ Some y = ap (slice_get (slice_set xs i y)) same ∙ there xs i y y lt in
          let is : x ≡ y = cc in
          inl (same, is)
      | inr other ↦ inr (other, sym (elsewhere xs i j y other) ∙ at)
    ]
