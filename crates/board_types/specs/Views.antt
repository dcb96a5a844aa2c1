-- What a pass knows (this project's own), in parts: one for each part of the rule, and what is in no part. Lists have the newest
-- item first where nothing else is said.
use Rattle.std.specs.Prelude.{ℕ, Bool, false, true, List, [], Option, None}
use Rattle.chunk_tags.specs.declared.block.Block.{Block}
use Rattle.chunk_tags.specs.declared.tiles.Chunk.{Chunk}
use Rattle.arena_core.specs.Journal.{Recorded}
use Rattle.arena_choice.specs.Books.{BookValue}
use Rattle.fast_bins.specs.FastPorts.{FastStep}
use Rattle.mapped_chunks.specs.DialPorts.{DialStep}
use Rattle.board_types.specs.declared.layout.Fixed.{Fixed}
use Rattle.chunk_tags.specs.Tunables.{serial_values}
use Rattle.arena_core.specs.KeptArenas.{KeptArena}

-- ---- homes

-- An entry that an unlock added to a journal: the arena's number, what stood in its journal before, and the entry.
pub record Added : Type 0 where
  pub arena : ℕ
  pub before : List Recorded
  pub entry : Recorded

-- What lay in an arena's record, or in the book's place behind these.
pub record HomeValue : Type 0 where
  pub arena : Option KeptArena
  -- the address of the first chunk of each of its ten private lists, 0 where one is empty
  pub fronts : List ℕ
  pub book : Option BookValue

-- What a pass holds: the number of the home, and what lay there when it was taken.
pub record Taken : Type 0 where
  pub home : ℕ
  pub value : HomeValue

-- a hold of this home, with what lay there
abbrev pub hold_of : ℕ → HomeValue → Taken
hold_of a x = record { home = a; value = x }

-- A number that the book keeps for this pass (a new arena's, as in arena_get2 of glibc 2.31 malloc/arena.c), and whether the arena
-- is in its record already.
pub record Own : Type 0 where
  pub number : ℕ
  pub stored : Bool

-- What the homes' part sees of a pass.
pub record HomesView : Type 0 where
  -- false where another seat has taken the view in
  pub live : Bool
  -- whether the pass has ended
  pub retired : Bool
  -- the pass's own number, which is its thread's; its mark in a lock word is one more
  pub number : ℕ
  -- the passes that it speaks for: itself, and those gathered
  pub speaks : List ℕ
  -- how many passes were made; that of the first pass alone counts
  pub made : ℕ
  pub holds : Option Taken
  -- the entries that its unlocks added, in the order in which they were added
  pub added : List Added
  pub own : List Own
  -- the lists of arenas of the books that it gave back
  pub lists : List (List ℕ)

-- ---- trays

-- A tray's number, and the block that it had.
pub record Posted : Type 0 where
  pub tray : ℕ
  pub block : Block

-- What the trays' part sees of a pass.
pub record TraysView : Type 0 where
  -- the tray that it has claimed, with the block that isn't in its slot yet
  pub hand : Option Posted
  -- the tray whose block isn't drawn from its slot yet
  pub drawing : Option ℕ
  -- the blocks that it posted, and those that it took
  pub posts : List Posted
  pub takes : List Posted
  -- what it found in the word of a tray where it could neither post nor take: the tray, and the word
  pub found : List (ℕ × ℕ)

-- ---- dials

-- What the dials' part sees of a pass. A dial is named by the number of its word: 0 the mmap threshold, 1 the trim threshold, 2 how
-- many mappings there are, 3 their bytes, 4 and 5 the maxima of these two (struct malloc_par of glibc 2.31 malloc/malloc.c).
pub record DialsView : Type 0 where
  -- its mapped blocks: how many, and their bytes; then the same of all that it ever mapped
  pub mapped : ℕ
  pub bytes : ℕ
  pub all_mapped : ℕ
  pub all_bytes : ℕ
  -- the bytes that its window for mappings gave, and how many such windows it speaks for
  pub given : ℕ
  pub windows : ℕ
  -- to what the two maxima still have to be raised
  pub due_mapped : List ℕ
  pub due_bytes : List ℕ
  -- the sizes that it raised the mmap threshold to, in bytes
  pub raises : List ℕ
  -- the values that it set a threshold to, and those that it read of a dial: the dial, and the value
  pub set : List (ℕ × ℕ)
  pub read : List (ℕ × ℕ)

-- ---- chains

-- A chunk, and the number of its arena.
pub record OwnChunk : Type 0 where
  pub arena : ℕ
  pub chunk : Chunk

-- A head that was loaded: of which arena and bin, the address (0 where the chain is empty), and its link where that was loaded too.
pub record Loaded : Type 0 where
  pub arena : ℕ
  pub bin : ℕ
  pub head : ℕ
  pub next : Option ℕ

-- A walk from a head: of which arena and bin, the address that it began at, how many chunks it passed, and the address where it
-- stands.
pub record Walk : Type 0 where
  pub arena : ℕ
  pub bin : ℕ
  pub head : ℕ
  pub passed : ℕ
  pub at : ℕ

-- What the chains' part sees of a pass.
pub record ChainsView : Type 0 where
  -- the chunks that it pushed to fast bins, and those that it popped
  pub pushes : List OwnChunk
  pub pops : List OwnChunk
  -- the chunk whose link was written last, and what was written
  pub written : Option (OwnChunk × ℕ)
  pub loaded : Option Loaded
  -- of the held arena, by bin: the private lists, and the chunks that were taken over and aren't joined to these yet
  pub own : List (List ℕ)
  pub gathered : List (List ℕ)
  -- what was read of the arena's flag
  pub flag : Option ℕ
  pub walk : Option Walk

-- ---- places

-- What the part 'each used chunk is in one place' sees of a pass.
pub record PlacesView : Type 0 where
  -- its blocks of arenas
  pub mine : List Block
  -- chunks that its unlocks made used, and made unused
  pub made : List OwnChunk
  pub unmade : List OwnChunk
  -- chunks that it pushed in this hold and that weren't used ones of the arena as it was last at home
  pub pending : List OwnChunk

-- ---- tuned words

-- A value of a tuned word: the word (0 max_fast, 1 top_pad, 2 mmaps_max, 3 dynamic, 4 arena_test, 5 arena_max), how many tuned
-- entries main's journal had up to the one that set it, and the value.
pub record TuneValue : Type 0 where
  pub word : ℕ
  pub place : ℕ
  pub value : ℕ

-- What the tuned words' part sees of a pass: what it read, and what it stored.
pub record TunedView : Type 0 where
  pub reads : List TuneValue
  pub stores : List TuneValue

-- ---- in no part

-- An answer that a hold was given: at the fast bins, or at the dials.
pub data AnswerLabel : Type 0 where
  AtBins : FastStep → AnswerLabel
  AtWords : DialStep → AnswerLabel

-- What a pass was told, of which the rule says nothing.
pub record ToldView : Type 0 where
  -- the answers of the hold that it has, or else of its last one
  pub answers : List AnswerLabel
  -- how often it asked a tray that had no block
  pub missed_asks : ℕ
  -- the tries of a lock that failed: the home, and the mark that it found
  pub lock_tries : List (ℕ × ℕ)
  -- the pushes that found another head: the bin through all arenas, and that head
  pub failed_pushes : List (ℕ × ℕ)
  -- how often it loaded a flag and a head, and how often it took a whole chain
  pub flag_loads : ℕ
  pub head_loads : ℕ
  pub take_alls : ℕ

-- All that a pass knows: what the board was made with, its view in each part of the rule, and what it was told.
pub record ViewValue : Type 0 where
  pub fixed : Fixed
  pub homes : HomesView
  pub trays : TraysView
  pub dials : DialsView
  pub chains : ChainsView
  pub places : PlacesView
  pub tuned : TunedView
  pub told : ToldView

-- ---- a pass that has done nothing

-- it was told nothing
abbrev pub no_told : ToldView
no_told = record {
  answers = [];
  missed_asks = 0;
  lock_tries = [];
  failed_pushes = [];
  flag_loads = 0;
  head_loads = 0;
  take_alls = 0;
}

-- it mapped, read and raised nothing; its window for mappings is one
abbrev pub no_dials : DialsView
no_dials = record {
  mapped = 0;
  bytes = 0;
  all_mapped = 0;
  all_bytes = 0;
  given = 0;
  windows = 1;
  due_mapped = [];
  due_bytes = [];
  raises = [];
  set = [];
  read = [];
}

-- it posted and took nothing
abbrev pub no_trays : TraysView
no_trays = record { hand = None; drawing = None; posts = []; takes = []; found = [] }

-- it pushed, popped and read nothing of chains
abbrev pub no_chains : ChainsView
no_chains = record {
  pushes = [];
  pops = [];
  written = None;
  loaded = None;
  own = [];
  gathered = [];
  flag = None;
  walk = None;
}

-- it has no block
abbrev pub no_places : PlacesView
no_places = record { mine = []; made = []; unmade = []; pending = [] }

-- it read and stored no tuned word
abbrev pub no_tuned : TunedView
no_tuned = record { reads = []; stores = [] }

-- The view of nobody: it speaks for no pass, and so has no window for mappings. A seat that another one took in has it.
abbrev pub no_view : ViewValue
no_view = record {
  fixed = record { layout = record { main_max = 0; heap_max = 0; heaps = 0; records = 0 }; tunables = serial_values };
  homes = record {
    live = false;
    retired = true;
    number = 0;
    speaks = [];
    made = 0;
    holds = None;
    added = [];
    own = [];
    lists = [];
  };
  trays = no_trays;
  dials = record no_dials { windows = 0 };
  chains = no_chains;
  places = no_places;
  tuned = no_tuned;
  told = no_told;
}
