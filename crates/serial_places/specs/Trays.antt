-- Trays, in which threads leave blocks for each other (this project's own). What is found in one has a number: 0 empty, 2 full,
-- 3 taken; 1 is claimed, which nobody finds in one order of calls.
use Rattle.std.specs.Prelude.{ℕ, ◌+◌, ◌-◌, List, [], ◌∷◌, ◌++◌, length, Option, Some, None, Result, Ok, Err, replicate, slice_index_or, slice_set, sum_by}
use Rattle.chunk_tags.specs.declared.block.Block.{Block}
use Rattle.block_names.specs.Blocks.{IsHeld}
use Rattle.arena_holds.specs.Places.{Hands, tray_count}
use Rattle.serial_places.specs.declared.tray.Tray.{Tray}
use Rattle.serial_places.specs.declared.tray.Tray.TheVariants.{Empty, Full, Taken}

-- ---- one tray

-- what is found where a block is posted, unless the tray takes it
abbrev pub seen_by_post : Tray → Option ℕ
seen_by_post Empty = None
seen_by_post (Full c) = Some 2
seen_by_post Taken = Some 3

-- the tray then
abbrev pub posted_tray : Block → Tray → Tray
posted_tray b Empty = Full b
posted_tray b (Full c) = Full c
posted_tray b Taken = Taken

-- what a take finds: the block, or that there is none
abbrev pub found_by_take : Tray → Result Block ℕ
found_by_take Empty = Err 0
found_by_take (Full c) = Ok c
found_by_take Taken = Err 3

-- the tray then
abbrev pub taken_tray : Tray → Tray
taken_tray Empty = Empty
taken_tray (Full c) = Taken
taken_tray Taken = Taken

-- the block of a tray is such as a thread may hold
abbrev pub IsHeldTray : Tray → Type 0
IsHeldTray Empty = Unit {0}
IsHeldTray (Full c) = IsHeld c
IsHeldTray Taken = Unit {0}

-- the block of a tray, by what it weighs
abbrev pub in_tray : Tray → Hands
in_tray Empty weigh = 0
in_tray (Full c) weigh = weigh c
in_tray Taken weigh = 0

-- ---- all of them

abbrev pub tray_at : List Tray → ℕ → Tray
tray_at trays n = slice_index_or trays n Empty

-- the blocks of all trays
abbrev pub in_trays : List Tray → Hands
in_trays trays weigh = sum_by (λ t. in_tray t weigh) trays

-- the trays behind a post, and behind a take
abbrev pub trays_posted : ℕ → Block → List Tray → List Tray
trays_posted n b trays = slice_set trays n (posted_tray b (tray_at trays n))

abbrev pub trays_taken : ℕ → List Tray → List Tray
trays_taken n trays = slice_set trays n (taken_tray (tray_at trays n))

-- all trays, as they begin
unfoldable pub empty_trays : List Tray
empty_trays = replicate tray_count Empty

-- all trays, where these are the first of them and the others are empty
unfoldable pub all_trays : List Tray → List Tray
all_trays first = first ++ replicate (tray_count - length first) Empty

-- a block before others, with the number of its tray
abbrev pub full_before : ℕ → Tray → List (ℕ × Block) → List (ℕ × Block)
full_before n Empty others = others
full_before n (Full c) others = (n, c) ∷ others
full_before n Taken others = others

-- the blocks by the numbers of their trays, the first of which has a number
abbrev pub full_trays : ℕ → List Tray → List (ℕ × Block)
full_trays n [] = []
full_trays n (t ∷ ts) = full_before n t (full_trays (n + 1) ts)
