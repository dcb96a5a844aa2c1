-- The slots and words of a board as it is made (this project's own).
use Rattle.std.specs.Prelude.{◌≡◌, ℕ, ◌+◌, ◌-◌, List, [], ◌∷◌, ◌++◌, map, take, drop, length, replicate, Some, None, slice_set}
use Rattle.arena_rules.specs.PlainArena.{empty_main}
use Rattle.arena_choice.specs.Books.{first_book}
use Rattle.board_types.specs.declared.layout.Fixed.{Fixed}
use Rattle.board_types.specs.declared.slot.Slot.{Slot}
use Rattle.board_types.specs.Layouts.{tray_count, IsLaid}
use Rattle.arena_core.specs.KeptArenas.{IsKept}
use Rattle.arena_choice.specs.Books as books
use Rattle.board_types.specs.Views.{HomeValue}
use Rattle.board_types.specs.Homes.{home_in}
use Rattle.board_types.specs.Trays.{tray_slot}
use Rattle.board_types.specs.Law.{table_words}

-- ten private lists, all empty
abbrev pub no_fronts : List ℕ
no_fronts = replicate 10 0

-- a record without an arena, main's as it starts, and the book's place with a first book
abbrev pub no_record : HomeValue
no_record = record { arena = None; fronts = no_fronts; book = None }

abbrev pub main_record : HomeValue
main_record = record { arena = Some (record { arena = empty_main; journal = [] }); fronts = no_fronts; book = None }

abbrev pub book_place : ℕ → HomeValue
book_place records = record { arena = None; fronts = []; book = Some (first_book records) }

-- all of these: main's record, the others, and the book's place
abbrev pub first_homes : ℕ → List HomeValue
first_homes records = main_record ∷ (replicate (records - 1) no_record ++ book_place records ∷ [])

-- These are the slots of a new board: its homes, and behind them the empty trays.
pub record AreFirst (records : ℕ) (slots : List Slot) : Type 0 where
  pub homes : map home_in (take (records + 1) slots) ≡ first_homes records
  pub trays : drop (records + 1) slots ≡ replicate tray_count (tray_slot None)
  pub count : length slots ≡ records + 1 + tray_count

-- The words of a new board: all are 0 but the two thresholds, which start as the tunables have them.
abbrev pub first_words : Fixed → List ℕ
first_words k = slice_set (slice_set (replicate (table_words k.layout) 0) 1 k.tunables.mmap_threshold) 2 k.tunables.trim_threshold

-- What a board may be made with: a layout in its ranges, which the tunables agree with, and so main and a first book as the rule has them.
pub record IsOpening (k : Fixed) : Type 0 where
  pub laid : IsLaid k.layout
  pub records : k.tunables.records ≡ k.layout.records
  pub heaps : (k.tunables.heap_max ≡ k.layout.heap_max) × (k.tunables.heaps ≡ k.layout.heaps)
  pub main_max : k.tunables.main_max ≡ k.layout.main_max
  pub main : IsKept k.tunables 0 (record { arena = empty_main; journal = [] })
  pub book : books.IsSound (first_book k.layout.records)
