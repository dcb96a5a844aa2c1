-- Where a thread's calls find arenas, fast bins and the words beside them, as contracts see it (this project's own form).
use Rattle.std.specs.Prelude.{◌≡◌, ℕ, ◌+◌, ◌-◌, ◌^◌, ◌<◌, ◌≤◌, ◌&&◌, nat_eq, nat_le, Bool, false, true, List, Option, Some, None, Result, is_some, IsTrue, sum_by, if◌then◌else◌}
use Rattle.chunk_tags.specs.declared.block.Block.{Block}
use Rattle.chunk_tags.specs.declared.tiles.Chunk.{Chunk}
use Rattle.chunk_tags.specs.declared.tunables.Tunables.{Tunables}
use Rattle.address_space.specs.declared.space.Space.{Space}
use Rattle.address_space.specs.Spaces.{map_length, map_start}
use Rattle.mapped_chunks.specs.DialPorts.{Dialled, Maps, Unmaps, Remaps}
use Rattle.mapped_chunks.specs.Mappings.{mapping_start, mapping_bytes, IsSteady}
use Rattle.fast_bins.specs.FastPorts.{Fast}
use Rattle.thread_cache.specs.Caches.{CacheValue, blocks_of, structure_of}
use Rattle.arena_rules.specs.PlainArena.{Plain, IsSound, is_main, empty_main, times_used}
use Rattle.arena_rules.specs.MainPlaces.{covers, IsPlaced}
use Rattle.arena_rules.specs.Rules.{windows_of, heap_windows_of}
use Rattle.arena_growth.specs.FirstHeap.{closed_arena}
use Rattle.arena_core.specs.declared.arena.Arena.{Arena}
use Rattle.arena_core.specs.declared.journal.Who.{Who}
use Rattle.arena_core.specs.Journal.{Recorded}
use Rattle.arena_core.specs.Replay.{IsReplay}
use Rattle.arena_core.specs.Shown.{MappedShown, ShowsMapped}
use Rattle.arena_choice.specs.Books as arena_books
use Rattle.arena_choice.specs.Books.{BookValue}
use Rattle.arena_holds.specs.BookChanges.{BookChange}
pub use Rattle.arena_core.specs.KeptArenas.{KeptArena, with_journal, kept_of, new_arena}
use Rattle.consolidate_trim.specs.Holds.{is_block_of}
use Rattle.consolidate_trim.specs.Outside.{Means, AreApart}

-- how many trays there are
abbrev pub tray_count : ℕ
tray_count = 65536

-- ---- blocks in somebody's hands

-- by what they weigh: for a weight of each block, the sum
abbrev pub Hands : Type 0
Hands = (Block → ℕ) → ℕ

-- the weight of a block that may be none
abbrev pub weight_of : Option Block → Hands
weight_of None weigh = 0
weight_of (Some b) weigh = weigh b

-- the blocks of a cache, that of its structure included
abbrev pub in_cache : CacheValue → Hands
in_cache cache weigh = sum_by weigh (blocks_of cache) + weight_of (structure_of cache) weigh

-- these, and others
abbrev pub both_of : Hands → Hands → Hands
both_of some others weigh = some weigh + others weigh

-- 1 for a chunk of the arena with a number, else 0
abbrev pub as_chunk_of : ℕ → Chunk → Block → ℕ
as_chunk_of number c b = if is_block_of number c b then 1 else 0

-- 1 for a mapped chunk, and the bytes of its mapping
abbrev pub as_mapped : Block → ℕ
as_mapped b = if is_some b.arena then 0 else 1

abbrev pub as_mapped_bytes : Block → ℕ
as_mapped_bytes b = if is_some b.arena then 0 else mapping_bytes b

-- the last byte of a block, and 1 where a byte is of the mapping of a mapped chunk, else 0
abbrev pub last_byte : Block → ℕ
last_byte b = b.addr + (b.size - 1)

abbrev pub as_mapped_byte : ℕ → Block → ℕ
as_mapped_byte n b = if is_some b.arena then 0 else (if nat_le (mapping_start b) n && nat_le n (last_byte b) then 1 else 0)

-- 1 where a byte is of a thread's window for mappings, as far as that was given, else 0
abbrev pub given_byte : {K : Type 0} → ℕ → Space K → ℕ
given_byte n s = covers n (map_start s.thread) s.mapped

-- as many as that, or where not all need be known, at most as many
abbrev pub Covers : Bool → ℕ → ℕ → Type 0
Covers true n m = n ≡ m
Covers false n m = n ≤ m

-- ---- places

-- What places are. Their steps: an arena was lent with its lock, where it is there, and given back; which one may be lent that
-- is the first from one on with a free lock, another being avoided; room was made, and nothing else is seen; a block was
-- pushed into a fast bin; the words were lent and given back; something was done at the book, which was such; a new arena was
-- put into its place, and a thread attached to it; a block was posted to a tray, or not, by what was found there; and taken
-- from one. Then which blocks are given out, exactly these or at least these; that the mappings counted for a thread, and for
-- the others, are together at most so many bytes; whether a push of an arena has room; the tunables; whether an arena is there
-- to be lent; whether one is in the book's list; whether each arena of the book is there, main among them, and the book keeps
-- no number for the caller; whether it keeps one for a new arena of the caller; whether entries of a line may be recorded; and
-- the mapped chunks that a lent port shows.
pub record PlaceWays (P H D : Type 0) : Type 1 where
  pub lent : P → ℕ → H → Option KeptArena → P → Type 0
  pub gave : P → H → KeptArena → P → Type 0
  pub free : P → ℕ → Option ℕ → ℕ → Type 0
  pub idle : P → P → Type 0
  pub pushed : P → Block → P → Type 0
  pub dials_lent : P → D → P → Type 0
  pub dials_gave : P → D → P → Type 0
  pub booked : P → BookChange → BookValue → P → Type 0
  pub added : P → ℕ → KeptArena → P → Type 0
  pub posted : P → ℕ → Block → Option ℕ → P → Type 0
  pub took : P → ℕ → Result Block ℕ → P → Type 0
  pub serves : Bool → P → Hands → Type 0
  pub notes : P → ℕ → ℕ → Type 0
  pub room : P → ℕ → Type 0
  pub tunables : P → Tunables
  pub there : P → ℕ → Bool
  pub listed : P → ℕ → Bool
  pub whole : P → Type 0
  pub owed : P → ℕ → Type 0
  pub writes : P → Who → Type 0
  pub shown : H → MappedShown

-- what a call stands on: the places, what is beside an arena in a hold, and the words
pub record Setting (P H D K : Type 0) : Type 1 where
  pub ways : PlaceWays P H D
  pub means : Means H K
  pub dials : Dialled D

abbrev pub setting : {P H D K : Type 0} → PlaceWays P H D → Means H K → Dialled D → Setting P H D K
setting ways means dials = record { ways = ways; means = means; dials = dials }

-- the places and the thread's address space, between two steps of a call
pub record Standing (P K : Type 0) : Type 0 where
  pub places : P
  pub space : Space K

abbrev pub standing : {P K : Type 0} → P → Space K → Standing P K
standing places space = record { places = places; space = space }

-- What a call of a thread needs of where it stands: its blocks are given out, its mappings and those of others are noted,
-- the tunables are the places', the windows theirs, and each arena of the book is there.
pub record IsServed {P H D K : Type 0} (ways : PlaceWays P H D) (t : Tunables) (hands : Hands) (o : Standing P K) : Type 0 where
  pub served : ways.serves false o.places hands
  pub others : ℕ
  pub notes : ways.notes o.places o.space.mapped others
  pub tunables : ways.tunables o.places ≡ t
  pub windows : o.space.windows ≡ windows_of t
  pub whole : ways.whole o.places

-- the same where the book may keep a number for the caller
pub record IsReached {P H D K : Type 0} (ways : PlaceWays P H D) (t : Tunables) (hands : Hands) (o : Standing P K) : Type 0 where
  pub served : ways.serves false o.places hands
  pub others : ℕ
  pub notes : ways.notes o.places o.space.mapped others
  pub tunables : ways.tunables o.places ≡ t
  pub windows : o.space.windows ≡ windows_of t

-- What a step keeps: whatever else is given out stays so while these blocks are given up and those are got, known exactly
-- where all went well; the mappings stay noted; no byte is got in a mapped chunk but what was given up in one or the thread's
-- window gave; tunables and windows are the same; each arena of the book is there still; and entries of the same lines may be
-- recorded.
pub record Carries {P H D K : Type 0} (ways : PlaceWays P H D) (well : Bool) (given : Hands) (old : Standing P K) (got : Hands)
    (new : Standing P K) : Type 0 where
  pub serves : (exact : Bool) → (exact ≡ true → well ≡ true) → (others : Hands) →
      ways.serves exact old.places (both_of given others) → ways.serves exact new.places (both_of got others)
  pub notes : (others : ℕ) → ways.notes old.places old.space.mapped others → ways.notes new.places new.space.mapped others
  pub mapped : (n : ℕ) → got (as_mapped_byte n) + given_byte n old.space ≤ given (as_mapped_byte n) + given_byte n new.space
  pub tunables : ways.tunables new.places ≡ ways.tunables old.places
  pub windows : new.space.windows ≡ old.space.windows
  pub whole : ways.whole old.places → ways.whole new.places
  pub writes : (who : Who) → ways.writes old.places who → ways.writes new.places who

-- ---- laws of places

-- An arena that was lent, with its port.
pub record IsLent {P H D : Type 0} (ways : PlaceWays P H D) (fast : Fast H) (dials : Dialled H) (p : P) (a : ℕ) (port : H) (k : KeptArena) : Type 0 where
  pub number : k.arena.number ≡ a
  pub sound : IsSound k.arena
  pub placed : IsPlaced k.arena
  pub heaps : is_main k.arena ≡ false → k.arena.windows ≡ heap_windows_of (ways.tunables p)
  pub replays : IsReplay (ways.tunables p) (new_arena (ways.tunables p) a) k.journal k.arena
  pub backed : (hands : Hands) → ways.serves false p hands → (e : Chunk) → fast.stock port e + hands (as_chunk_of a e) ≤ times_used e k.arena
  pub maps : (own others len : ℕ) → ways.notes p own others → own + len ≤ map_length → dials.allows port (Maps len)

-- another length of a mapping that a thread may ask for, so many bytes of whose window are given: a longer one fits into it
pub record MayLengthen (b : Block) (own len : ℕ) : Type 0 where
  pub window : map_start 0 + own < 2 ^ 64
  pub fits : mapping_bytes b < len → own + len ≤ map_length

-- what is true of places: as often the same blocks are given out, or fewer; a lent arena is such; main is there where each
-- arena of the book is, and the arena of a block that is given out is there; the number of a new arena isn't main's; a book
-- that is found is sound; a mapping that fits its thread's window may be counted; and a mapped chunk may be counted no more, or
-- with another length that fits its thread's window
pub record PlaceLaws {P H D : Type 0} (ways : PlaceWays P H D) (fast : Fast H) (dials : Dialled H) (words : Dialled D) : Type 0 where
  pub apart : AreApart fast dials
  pub shows : ShowsMapped fast dials ways.shown
  pub steady : IsSteady words
  pub same : (exact : Bool) (p : P) (hands others : Hands) → ((weigh : Block → ℕ) → others weigh ≡ hands weigh) → ways.serves exact p hands → ways.serves exact p others
  pub fewer : (p : P) (hands some : Hands) → ((weigh : Block → ℕ) → some weigh ≤ hands weigh) → ways.serves false p hands → ways.serves false p some
  pub lends : (p q : P) (a : ℕ) (port : H) (k : KeptArena) → ways.lent p a port (Some k) q → IsLent ways fast dials p a port k
  pub home : (p : P) → ways.whole p → IsTrue (ways.there p 0)
  pub known : (p : P) (b : Block) (others : Hands) (a : ℕ) → ways.serves false p (both_of (λ weigh. weigh b) others) → b.arena ≡ Some a → IsTrue (ways.there p a)
  pub owes : (p : P) (a : ℕ) → ways.owed p a → (0 < a) × (a < 64)
  pub books : (p q : P) (change : BookChange) (book : BookValue) → ways.booked p change book q → arena_books.IsSound book
  pub maps : (p q : P) (d : D) (own others len : ℕ) → ways.dials_lent p d q → ways.notes p own others → own + len ≤ map_length → words.allows d (Maps len)
  pub unmaps : (p q : P) (d : D) (b : Block) (others : Hands) → ways.dials_lent p d q → ways.serves false p (both_of (λ weigh. weigh b) others) → b.arena ≡ None →
      words.allows d (Unmaps (mapping_bytes b))
  pub remaps : (p q : P) (d : D) (b : Block) (others : Hands) (own more len : ℕ) → ways.dials_lent p d q →
      ways.serves false p (both_of (λ weigh. weigh b) others) → b.arena ≡ None → ways.notes p own more → MayLengthen b own len →
      words.allows d (Remaps (mapping_bytes b) len)
