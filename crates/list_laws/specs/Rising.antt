-- Entries whose numbers rise, and what stands at a number (this project's own).
use Rattle.std.specs.Prelude.{ℕ, ◌+◌, ◌≤◌, List, [], ◌∷◌, Option}
use Rattle.std.specs.Ordering.{nat_cmp}
use Rattle.std.specs.BTreeMap.{is_at}
use Rattle.std.specs.Map.{lookup}

-- the numbers rise, from this one on
abbrev pub Rise : {X : Type 0} → ℕ → List (ℕ × X) → Type 0
Rise from [] = Unit {0}
Rise from (e ∷ es) = (from ≤ e.0) × Rise (e.0 + 1) es

-- what stands at a number
abbrev pub at : {X : Type 0} → ℕ → List (ℕ × X) → Option X
at k es = lookup (is_at (nat_cmp k)) es
