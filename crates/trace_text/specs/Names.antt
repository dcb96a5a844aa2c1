-- Held names, one kind for each thread: near ones as a table, far ones as a set (this project's own). No public clause
-- cites this file.
use Rattle.std.specs.Prelude.{◌≡◌, ℕ, ◌==◌, nat_lt, nat_eq, Bool, not, ◌&&◌, ◌||◌, List, [], slice_index_or, if◌then◌else◌}
use Rattle.std.specs.List.{list_any}
use Rattle.trace_text.specs.Marks.{has}

-- the names that a thread holds: the words with the marks of those below 2 ^ 20, and the others
pub record Held : Type 0 where
  pub near : List ℕ
  pub far : List ℕ

-- no name is held
abbrev pub none_held : Held
none_held = record { near = []; far = [] }

-- whether a name is held
abbrev pub holds : Held → ℕ → Bool
holds names n = if nat_lt n 1048576 then has names.near n else list_any (nat_eq n) names.far

-- the same of a thread
abbrev pub holds_at : List Held → ℕ → ℕ → Bool
holds_at threads thread n = holds (slice_index_or threads thread none_held) n

-- a name is held, and the others stay
pub record Makes (old new : Held) (n : ℕ) : Type 0 where
  pub is : (k : ℕ) → holds new k ≡ (n == k || holds old k)

pub record GivesUp (old new : Held) (n : ℕ) : Type 0 where
  pub is : (k : ℕ) → holds new k ≡ (not (n == k) && holds old k)

-- the same of a thread
pub record MakesAt (old new : List Held) (thread n : ℕ) : Type 0 where
  pub is : (i k : ℕ) → holds_at new i k ≡ (if thread == i then (n == k || holds_at old i k) else holds_at old i k)

pub record GivesUpAt (old new : List Held) (thread n : ℕ) : Type 0 where
  pub is : (i k : ℕ) → holds_at new i k ≡ (if thread == i then (not (n == k) && holds_at old i k) else holds_at old i k)
