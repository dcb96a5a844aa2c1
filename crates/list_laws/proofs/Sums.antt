-- Sums over what is made of a list, and over lists in lists of which one changes.
use Rattle.std.proofs.Common.{◌≡◌, ℕ, zero, suc, ◌+◌, ◌<◌, List, [], ◌∷◌, ◌++◌, map, drop, set, get_or, length, Some, sum_by, refl, ap, arith}
use Rattle.std.specs.Prelude.{slice_get, flat_map}
use Rattle.std.proofs.lemmas.List.Sums.{sum_by-cons, sum_by-append}

pub sum_by-map : {X Y : Type 0} (f : Y → ℕ) (g : X → Y) (xs : List X) → sum_by f (map g xs) ≡ sum_by (λ x. f (g x)) xs
sum_by-map f g [] = refl
sum_by-map f g (x ∷ xs) = omega (arith, sum_by-cons f (g x) (map g xs), sum_by-cons (λ y. f (g y)) x xs, sum_by-map f g xs)

-- the list at an index loses its first element
pub sum_by-flat-less : {X : Type 0} (g : X → ℕ) (lists : List (List X)) (i : ℕ) (x : X) → slice_get (get_or lists i []) 0 ≡ Some x → g x + sum_by g (flat_map (λ l. l) (set lists i (drop 1 (get_or lists i [])))) ≡ sum_by g (flat_map (λ l. l) lists)
sum_by-flat-less g [] i x found = absurd cc
sum_by-flat-less g ([] ∷ lists) zero x found = absurd cc
sum_by-flat-less g ((y ∷ ys) ∷ lists) zero x found =
    let same : y ≡ x = cc in
    omega (arith, ap g same, sum_by-cons g y (ys ++ flat_map (λ l. l) lists))
sum_by-flat-less g (l ∷ lists) (suc i) x found =
    omega (arith, sum_by-flat-less g lists i x found, sum_by-append g l (flat_map (λ y. y) lists), sum_by-append g l (flat_map (λ y. y) (set lists i (drop 1 (get_or lists i [])))))

-- the list at an index gets one more in front
pub sum_by-flat-more : {X : Type 0} (g : X → ℕ) (lists : List (List X)) (i : ℕ) (x : X) → i < length lists → sum_by g (flat_map (λ l. l) (set lists i (x ∷ get_or lists i []))) ≡ g x + sum_by g (flat_map (λ l. l) lists)
sum_by-flat-more g [] i x lt = let no : ⊥ = omega arith in absurd no
sum_by-flat-more g (l ∷ lists) zero x lt = sum_by-cons g x (l ++ flat_map (λ y. y) lists)
sum_by-flat-more g (l ∷ lists) (suc i) x lt =
    omega (arith, sum_by-flat-more g lists i x (omega arith), sum_by-append g l (flat_map (λ y. y) lists), sum_by-append g l (flat_map (λ y. y) (set lists i (x ∷ get_or lists i []))))
