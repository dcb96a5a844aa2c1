-- Lists of arenas' numbers (this project's own words).
use Rattle.std.specs.Prelude.{◌≡◌, ℕ, zero, suc, ◌+◌, ◌==◌, Bool, false, not, cond, List, [], ◌∷◌, length}
use Rattle.std.specs.List.{list_any, filter}

-- whether a number is in a list
abbrev pub has : ℕ → List ℕ → Bool
has a xs = list_any (λ x. x == a) xs

-- no number is in a list twice
abbrev pub Apart : List ℕ → Type 0
Apart [] = Unit {0}
Apart (x ∷ xs) = (has x xs ≡ false) × Apart xs

-- a list without a number
abbrev pub without : ℕ → List ℕ → List ℕ
without a xs = filter (λ x. not (x == a)) xs

-- the lowest number from n on that isn't in a list, among k numbers and the one behind them
abbrev pub lowest_from : ℕ → ℕ → List ℕ → ℕ
lowest_from zero n xs = n
lowest_from (suc k) n xs = cond (has n xs) (lowest_from k (n + 1) xs) n

-- the lowest number that isn't in a list: one of as many as are in it, or the one behind them
unfoldable pub lowest_unused : List ℕ → ℕ
lowest_unused xs = lowest_from (length xs) 0 xs

-- the first of a list, or another where there is none
abbrev pub first_or : ℕ → List ℕ → ℕ
first_or d [] = d
first_or d (x ∷ xs) = x

-- what stands behind a number in a list, or another where nothing does
abbrev pub behind_or : ℕ → ℕ → List ℕ → ℕ
behind_or d a [] = d
behind_or d a (x ∷ xs) = cond (x == a) (first_or d xs) (behind_or d a xs)

-- a list with a number behind its first
abbrev pub with_second : ℕ → List ℕ → List ℕ
with_second a [] = a ∷ []
with_second a (x ∷ xs) = x ∷ a ∷ xs

-- a list with a number of another one behind its first, where that other has the number
abbrev pub list_with : ℕ → List ℕ → List ℕ → List ℕ
list_with a kept list = cond (has a kept) (with_second a list) list
