-- What was done in calls, by what they were told (this project's own).
use Rattle.std.specs.Prelude.{ℕ, nat_eq, List, [], ◌∷◌, Some, None, Ok, Err, if◌then◌else◌}
use Rattle.chunk_tags.specs.declared.block.Block.{Block}
use Rattle.arena_core.specs.Journal.{Recorded}
use Rattle.arena_holds.specs.Going.{Told, Held, Opened, Booked, Mapped, Pushed, Freed, Unmapped, Remapped, Posted, Taken}

-- the entries in the arena with a number, each with its place in the journal
abbrev pub entries_told : ℕ → List Told → List (ℕ × Recorded)
entries_told a [] = []
entries_told a (Held b place before entry ∷ told) = if nat_eq b a then (place, entry) ∷ entries_told a told else entries_told a told
entries_told a (Opened b (Some entry) ∷ told) = if nat_eq b a then (0, entry) ∷ entries_told a told else entries_told a told
entries_told a (Opened b None ∷ told) = entries_told a told
entries_told a (Booked change book ∷ told) = entries_told a told
entries_told a (Mapped len start ∷ told) = entries_told a told
entries_told a (Pushed b ∷ told) = entries_told a told
entries_told a (Freed b threshold ∷ told) = entries_told a told
entries_told a (Unmapped b ∷ told) = entries_told a told
entries_told a (Remapped b len start ∷ told) = entries_told a told
entries_told a (Posted tray b full ∷ told) = entries_told a told
entries_told a (Taken tray found ∷ told) = entries_told a told

-- blocks that went to a tray, each with its tray
abbrev pub posts_told : List Told → List (ℕ × Block)
posts_told [] = []
posts_told (Posted tray b None ∷ told) = (tray, b) ∷ posts_told told
posts_told (x ∷ told) = posts_told told

-- blocks that were taken from a tray, each with its tray
abbrev pub takes_told : List Told → List (ℕ × Block)
takes_told [] = []
takes_told (Taken tray (Ok b) ∷ told) = (tray, b) ∷ takes_told told
takes_told (x ∷ told) = takes_told told

-- the values that were found in trays which didn't take a block, or had none
abbrev pub found_told : List Told → List (ℕ × ℕ)
found_told [] = []
found_told (Posted tray b (Some seen) ∷ told) = (tray, seen) ∷ found_told told
found_told (Taken tray (Err seen) ∷ told) = (tray, seen) ∷ found_told told
found_told (x ∷ told) = found_told told

-- what was pushed outside all holds
abbrev pub pushes_told : List Told → List Block
pushes_told [] = []
pushes_told (Pushed b ∷ told) = b ∷ pushes_told told
pushes_told (x ∷ told) = pushes_told told
