-- Sums over views and over lists: what one or two of them add, and where one alone does.
use Rattle.std.proofs.Common.{◌≡◌, ◌≢◌, ℕ, zero, suc, ◌+◌, ◌≤◌, List, [], ◌∷◌, sym, refl, ap, arith}
use mathlib.Core.Option.{some, some-injective, some-ne-none}
use lib.ListN.{get_elem?}
use Rattle.board_types.specs.Weights.{weigh, each}
use Rattle.board_types.proofs.Weigh.{weigh_at}

module _ {A : Type 0} where
  pub weigh_none : (f : A → ℕ) (xs : List A) → ((q : ℕ) (u : A) → get_elem? xs q ≡ some u → f u ≡ 0) → weigh f xs ≡ 0
  weigh_none f [] h = refl
  weigh_none f (x ∷ xs) h = let a = h 0 x refl in let b = weigh_none f xs (λ q u g. h (suc q) u g) in omega arith

  pub weigh_only : (f : A → ℕ) (xs : List A) (p : ℕ) (v : A) → get_elem? xs p ≡ some v → ((q : ℕ) (u : A) → q ≢ p → get_elem? xs q ≡ some u → f u ≡ 0) → weigh f xs ≡ f v
  weigh_only f [] p v e h = absurd (some-ne-none v (sym e))
  weigh_only f (x ∷ xs) zero v e h = let a : f x ≡ f v = ap f (some-injective x v e) in let b = weigh_none f xs (λ q u g. h (suc q) u (λ z. omega (arith, z)) g) in omega arith
  weigh_only f (x ∷ xs) (suc p) v e h = let a = h 0 x (λ z. omega (arith, z)) refl in let b = weigh_only f xs p v e (λ q u ne g. h (suc q) u (λ z. ne (omega (arith, z))) g) in omega arith

  pub weigh_two : (f : A → ℕ) (xs : List A) (p q : ℕ) (v u : A) → q ≢ p → get_elem? xs p ≡ some v → get_elem? xs q ≡ some u → f v + f u ≤ weigh f xs
  weigh_two f [] p q v u ne e g = absurd (some-ne-none v (sym e))
  weigh_two f (x ∷ xs) zero zero v u ne e g = absurd (ne refl)
  weigh_two f (x ∷ xs) zero (suc q) v u ne e g = let a : f x ≡ f v = ap f (some-injective x v e) in let b = weigh_at f xs q u g in omega arith
  weigh_two f (x ∷ xs) (suc p) zero v u ne e g = let a : f x ≡ f u = ap f (some-injective x u g) in let b = weigh_at f xs p v e in omega arith
  weigh_two f (x ∷ xs) (suc p) (suc q) v u ne e g = let b = weigh_two f xs p q v u (λ z. ne (ap suc z)) e g in omega arith

  pub each_at : (f : ℕ → A → ℕ) (i : ℕ) (xs : List A) (k : ℕ) (t : A) → get_elem? xs k ≡ some t → f (i + k) t ≤ each f i xs
  each_at f i [] k t e = absurd (some-ne-none t (sym e))
  each_at f i (x ∷ xs) zero t e = let h : f (i + 0) x ≡ f (i + 0) t = ap (f (i + 0)) (some-injective x t e) in let z : i + 0 ≡ i = omega arith in let a : f (i + 0) x ≡ f i x = ap (λ n. f n x) z in omega arith
  each_at f i (x ∷ xs) (suc k) t e = let h = each_at f (i + 1) xs k t e in let z : (i + 1) + k ≡ i + suc k = omega arith in let a : f ((i + 1) + k) t ≡ f (i + suc k) t = ap (λ n. f n t) z in omega arith
