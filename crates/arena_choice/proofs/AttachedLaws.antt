-- How many threads are attached to an arena, when one thread's arena changes. Other crates may cite this file.
use Rattle.std.proofs.Common.{◌≡◌, ℕ, zero, suc, ◌+◌, ◌<◌, ◌≤◌, cond, List, [], ◌∷◌, set, get_or, Option, Some, None, refl, ap, ◌∙◌, arith, replicate}
use Rattle.std.proofs.lemmas.List.Sums.{sum_by-cons}
use Rattle.arena_choice.specs.Books.{is_at, attached_to, no_arenas}
use Rattle.arena_choice.proofs.NumberLaws.{itself}

-- whether a thread's arena counts
abbrev pub weight : ℕ → Option ℕ → ℕ
weight a x = cond (is_at a x) 1 0

attached-cons : (a : ℕ) (x : Option ℕ) (xs : List (Option ℕ)) → attached_to a (x ∷ xs) ≡ weight a x + attached_to a xs
attached-cons a x xs = sum_by-cons (weight a) x xs

pub attached-set : (a : ℕ) (xs : List (Option ℕ)) (i : ℕ) (y : Option ℕ) → attached_to a (set xs i y) ≤ attached_to a xs + weight a y
attached-set a [] i y = omega arith
attached-set a (x ∷ xs) zero y = omega (arith, attached-cons a x xs, attached-cons a y xs)
attached-set a (x ∷ xs) (suc i) y = omega (arith, attached-cons a x xs, attached-cons a x (set xs i y), attached-set a xs i y)

-- a thread that is attached counts
pub attached-get : (a : ℕ) (xs : List (Option ℕ)) (i : ℕ) → get_or xs i None ≡ Some a → 0 < attached_to a xs
attached-get a [] i e = absurd cc
attached-get a (x ∷ xs) zero e =
    let one : weight a x ≡ 1 = ap (weight a) e ∙ ap (λ b. cond b 1 0) (itself a) in
    omega (arith, one, attached-cons a x xs)
attached-get a (x ∷ xs) (suc i) e = omega (arith, attached-cons a x xs, attached-get a xs i e)

-- of threads without an arena none counts
none_attached : (a n : ℕ) → let none : Option ℕ = None in attached_to a (replicate n none) ≡ 0
none_attached a zero = refl
none_attached a (suc n) = let none : Option ℕ = None in omega (arith, attached-cons a none (replicate n none), none_attached a n)

pub none_at_first : (a : ℕ) → attached_to a no_arenas ≡ 0
unfolding no_arenas
none_at_first a = none_attached a 256
