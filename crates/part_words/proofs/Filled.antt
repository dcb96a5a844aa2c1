-- Lists that are filled up.
use Rattle.std.proofs.Common.{◌≡◌, ℕ, ◌-◌, ◌≤◌, max, List, [], ◌∷◌, ◌++◌, length, replicate, get_or, refl, arith, zero, suc}
use Rattle.std.proofs.lemmas.List.{append-nil, length-append, length-replicate}
use Rattle.part_words.specs.Parts.{filled}

-- with more of the default a list reads as before
pub get_or-more : {T : Type 0} (m : ℕ) (fill : T) (ws : List T) (i : ℕ) → get_or (ws ++ replicate m fill) i fill ≡ get_or ws i fill
get_or-more zero fill [] i = refl
get_or-more (suc m) fill [] zero = refl
get_or-more (suc m) fill [] (suc i) = get_or-more m fill [] i
get_or-more m fill (w ∷ ws) zero = refl
get_or-more m fill (w ∷ ws) (suc i) = get_or-more m fill ws i

pub get_or-filled : {T : Type 0} (n : ℕ) (fill : T) (ws : List T) (i : ℕ) → get_or (filled n fill ws) i fill ≡ get_or ws i fill
get_or-filled n fill ws i = get_or-more (n - length ws) fill ws i

pub length_filled : {T : Type 0} (n : ℕ) (fill : T) (ws : List T) → length (filled n fill ws) ≡ max n (length ws)
length_filled n fill ws =
    omega (arith, length-append ws (replicate (n - length ws) fill), length-replicate (n - length ws) fill)

-- nothing is filled up where there is as much
pub filled_enough : {T : Type 0} (n : ℕ) (fill : T) (ws : List T) → n ≤ length ws → filled n fill ws ≡ ws
filled_enough n fill ws le =
    let none : n - length ws ≡ 0 = omega (arith, le) in
    rw none (append-nil ws)
