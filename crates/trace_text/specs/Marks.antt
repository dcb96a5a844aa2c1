-- Marked numbers as a table of bits (this project's own). No public clause cites this file.
use Rattle.std.specs.Prelude.{◌≡◌, ℕ, ◌==◌, ◌/◌, ◌%◌, Bool, not, ◌&&◌, ◌||◌, List, slice_index_or, if◌then◌else◌}
use Rattle.std.specs.Int.{bit_at}

-- whether a number is marked: its bit in the word of its 64; those past the table's end aren't
abbrev pub has : List ℕ → ℕ → Bool
has words n = bit_at (slice_index_or words (n / 64) 0) (n % 64) == 1

-- a bit that says so
abbrev pub bit_of : Bool → ℕ
bit_of is_marked = if is_marked then 1 else 0

-- a number is marked, and the others stay
pub record Inserts (old new : List ℕ) (n : ℕ) : Type 0 where
  pub is : (k : ℕ) → has new k ≡ (n == k || has old k)

pub record Removes (old new : List ℕ) (n : ℕ) : Type 0 where
  pub is : (k : ℕ) → has new k ≡ (not (n == k) && has old k)
