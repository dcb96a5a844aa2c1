-- Lists as multisets (this project's own): by what their items weigh.
use Rattle.std.specs.Prelude.{ℕ, ◌+◌, List, [], ◌∷◌, if◌then◌else◌, nat_eq}

-- the sum of what the items weigh
abbrev pub weigh : {A : Type 0} → (A → ℕ) → List A → ℕ
weigh h [] = 0
weigh h (x ∷ xs) = h x + weigh h xs

-- 1 for this number, and else 0
abbrev pub one_at : ℕ → ℕ → ℕ
one_at x y = if nat_eq y x then 1 else 0

-- how often a number stands in a list
abbrev pub times : ℕ → List ℕ → ℕ
times x xs = weigh (one_at x) xs

-- the same where the weight depends on the index too, that of the first item being i
abbrev pub each : {A : Type 0} → (ℕ → A → ℕ) → ℕ → List A → ℕ
each f i [] = 0
each f i (x ∷ xs) = f i x + each f (i + 1) xs
