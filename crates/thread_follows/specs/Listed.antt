-- The entries that a view lists beside what was told (this project's own).
use Rattle.std.specs.Prelude.{◌≡◌, ℕ, nat_eq, List, [], ◌∷◌, length, Some, None, if◌then◌else◌}
use Rattle.chunk_tags.specs.declared.tunables.Tunables.{Tunables}
use Rattle.arena_rules.specs.PlainArena.{Plain}
use Rattle.arena_core.specs.Journal.{Recorded}
use Rattle.arena_core.specs.Replay.{IsReplay}
use Rattle.arena_holds.specs.Places.{new_arena}
use Rattle.arena_holds.specs.Going.{Told, Held, Opened, Booked, Mapped, Pushed, Freed, Unmapped, Remapped, Posted, Taken}
use Rattle.board_types.specs.Views.{Added}

-- An entry of a hold: it has its place, and what stands before it replays to the arena that was told; and the first entry of a
-- new arena.
pub record IsHeldEntry (t : Tunables) (a place : ℕ) (before : Plain) (entry : Recorded) (x : Added) : Type 0 where
  pub arena_is : x.arena ≡ a
  pub place_is : length x.before ≡ place
  pub before_is : IsReplay t (new_arena t a) x.before before
  pub entry_is : x.entry ≡ entry

pub record IsFirstEntry (a : ℕ) (entry : Recorded) (x : Added) : Type 0 where
  pub arena_is : x.arena ≡ a
  pub first : x.before ≡ []
  pub entry_is : x.entry ≡ entry

-- the entries that a view lists are those that were told, in order
abbrev pub AreAdded : Tunables → List Told → List Added → Type 0
AreAdded t [] [] = Unit {0}
AreAdded t (Held a place before entry ∷ told) (x ∷ xs) = IsHeldEntry t a place before entry x × AreAdded t told xs
AreAdded t (Opened a (Some entry) ∷ told) (x ∷ xs) = IsFirstEntry a entry x × AreAdded t told xs
AreAdded t (Opened a None ∷ told) xs = AreAdded t told xs
AreAdded t (Booked change book ∷ told) xs = AreAdded t told xs
AreAdded t (Mapped len start ∷ told) xs = AreAdded t told xs
AreAdded t (Pushed b ∷ told) xs = AreAdded t told xs
AreAdded t (Freed b threshold ∷ told) xs = AreAdded t told xs
AreAdded t (Unmapped b ∷ told) xs = AreAdded t told xs
AreAdded t (Remapped b len start ∷ told) xs = AreAdded t told xs
AreAdded t (Posted tray b full ∷ told) xs = AreAdded t told xs
AreAdded t (Taken tray found ∷ told) xs = AreAdded t told xs
AreAdded t told xs = ⊥

-- those of an arena, each with its place
abbrev pub entries_in : ℕ → List Added → List (ℕ × Recorded)
entries_in a [] = []
entries_in a (x ∷ xs) = if nat_eq x.arena a then (length x.before, x.entry) ∷ entries_in a xs else entries_in a xs
