-- What a call was told was posted and taken, and the entries that a view lists beside it (this project's own).
use Rattle.std.specs.Prelude.{◌≡◌, ℕ, List, [], ◌∷◌, length, Some, None, Ok}
use Rattle.chunk_tags.specs.declared.tunables.Tunables.{Tunables}
use Rattle.arena_rules.specs.PlainArena.{Plain}
use Rattle.arena_core.specs.Journal.{Recorded}
use Rattle.arena_core.specs.Replay.{IsReplay}
use Rattle.arena_holds.specs.Places.{new_arena}
use Rattle.arena_holds.specs.Going.{Told, Held, Opened, Booked, Mapped, Pushed, Freed, Unmapped, Remapped, Posted, Taken}
use Rattle.board_types.specs.Views.{Added}
use Rattle.board_types.specs.Views as views

-- blocks that were posted, and that were taken, each with its tray
abbrev pub posts_told : List Told → List views.Posted
posts_told [] = []
posts_told (Posted tray b None ∷ told) = record { tray = tray; block = b } ∷ posts_told told
posts_told (x ∷ told) = posts_told told

abbrev pub takes_told : List Told → List views.Posted
takes_told [] = []
takes_told (Taken tray (Ok b) ∷ told) = record { tray = tray; block = b } ∷ takes_told told
takes_told (x ∷ told) = takes_told told

-- An entry of a hold: it has its place, and what stands before it replays to the arena that was told; and the first entry of a
-- new arena.
pub record IsHeldEntry (t : Tunables) (a place : ℕ) (before : Plain) (entry : Recorded) (x : Added) : Type 0 where
  pub arena_is : x.arena ≡ a
  pub place_is : length x.before ≡ place
  pub before_is : IsReplay t (new_arena t a) x.before before
  pub entry_is : x.entry ≡ entry

pub record IsFirstEntry (a : ℕ) (entry : Recorded) (x : Added) : Type 0 where
  pub arena_is : x.arena ≡ a
  pub first : x.before ≡ []
  pub entry_is : x.entry ≡ entry

-- the entries that a view lists are those that were told, in order
abbrev pub AreAdded : Tunables → List Told → List Added → Type 0
AreAdded t [] [] = Unit {0}
AreAdded t (Held a place before entry ∷ told) (x ∷ xs) = IsHeldEntry t a place before entry x × AreAdded t told xs
AreAdded t (Opened a (Some entry) ∷ told) (x ∷ xs) = IsFirstEntry a entry x × AreAdded t told xs
AreAdded t (Opened a None ∷ told) xs = AreAdded t told xs
AreAdded t (Booked change book ∷ told) xs = AreAdded t told xs
AreAdded t (Mapped len start ∷ told) xs = AreAdded t told xs
AreAdded t (Pushed b ∷ told) xs = AreAdded t told xs
AreAdded t (Freed b threshold ∷ told) xs = AreAdded t told xs
AreAdded t (Unmapped b ∷ told) xs = AreAdded t told xs
AreAdded t (Remapped b len start ∷ told) xs = AreAdded t told xs
AreAdded t (Posted tray b full ∷ told) xs = AreAdded t told xs
AreAdded t (Taken tray found ∷ told) xs = AreAdded t told xs
AreAdded t told xs = ⊥
