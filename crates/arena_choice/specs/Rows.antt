-- How the book is kept: its lists with room that was reserved for them (this project's own). No public clause cites
-- this file.
use Rattle.std.specs.Prelude.{ℕ, ◌≤◌, List, Option}
use Rattle.arena_choice.specs.Books.{BookValue, IsSound}

-- numbers, and how many may be there before memory is asked for
pub record Rowed : Type 0 where
  pub room : ℕ
  pub numbers : List ℕ

-- the book whose lists are kept so
abbrev pub seen : Rowed → Rowed → Rowed → Option ℕ → ℕ → List (Option ℕ) → ℕ → BookValue
seen list kept free next limit arenas records = record {
  list = list.numbers;
  kept = kept.numbers;
  free = free.numbers;
  next = next;
  limit = limit;
  arenas = arenas;
  records = records;
}

-- each list has room for as many numbers as there may be arenas
pub record HasRoom (a b c : Rowed) (records : ℕ) : Type 0 where
  pub list : records ≤ a.room
  pub kept : records ≤ b.room
  pub free : records ≤ c.room

-- a sound book, kept in lists with room
pub record IsKept (list kept free : Rowed) (next : Option ℕ) (limit : ℕ) (arenas : List (Option ℕ)) (records : ℕ) : Type 0 where
  pub sound : IsSound (seen list kept free next limit arenas records)
  pub room : HasRoom list kept free records
