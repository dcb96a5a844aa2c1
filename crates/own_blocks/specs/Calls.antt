-- The parts that calls of a thread share: glibc 2.31 malloc/malloc.c, tcache_init, _int_malloc and _int_memalign as their
-- callers see them, and _int_free outside the arena's lock.
use Rattle.std.specs.Prelude.{ℕ, ◌≤◌, ◌≡◌, ◌⊎◌, nat_le, Option, Some, None, option_map, if◌then◌else◌}
use Rattle.chunk_tags.specs.Sizes.{structure_bytes, structure_size, fast_index_of}
use Rattle.chunk_tags.specs.declared.block.Block.{Block}
use Rattle.chunk_tags.specs.declared.tunables.Tunables.{Tunables}
use Rattle.thread_cache.specs.Caches.{CacheValue, opened_cache, is_open, with_newest, takes}
use Rattle.arena_core.specs.Arenas.{need_of}
use Rattle.arena_core.specs.declared.journal.Act.{Act}
use Rattle.arena_core.specs.declared.journal.Act.TheVariants.{Take, Give}
use Rattle.arena_holds.specs.Calls.{Call, Done, Pushes, then_call, hold_of}
use Rattle.arena_holds.specs.Searching.{Searched, search}
use Rattle.block_names.specs.Names.{NameTable, block_at, with_block}
use Rattle.own_blocks.specs.Own.{newest_of_size, without_newest_of}
use Rattle.own_blocks.specs.declared.own.Own.{Own}
use Rattle.own_blocks.specs.declared.reply.Reply.{Reply}
use Rattle.own_blocks.specs.declared.reply.Reply.TheVariants.{Got, Null}
use Rattle.own_blocks.specs.declared.reply.Origin.{Origin}
use Rattle.own_blocks.specs.declared.reply.Origin.TheVariants as origins
use Rattle.own_blocks.specs.declared.reply.To.{To}
use Rattle.own_blocks.specs.declared.reply.To.TheVariants as sinks
use Rattle.own_blocks.specs.declared.reply.Why.TheVariants.{Refused}
use Rattle.own_blocks.specs.declared.supplying.Supply.{Supply}

-- where a block of a hold came from
abbrev pub origin_of : ℕ → Block → Origin
origin_of place b = elim b.arena [ None ↦ origins.Mapped | Some a ↦ origins.Arena a place ]

abbrev pub with_cache : CacheValue → Own → Own
with_cache cache own = record own { cache = cache }

-- ---- the cache is opened where it is closed

-- the cache in the chunk that was taken for its structure; where none was, it stays closed
abbrev pub cache_with_structure : Tunables → Option Block → CacheValue → CacheValue
cache_with_structure t None cache = cache
cache_with_structure t (Some b) cache = opened_cache b t.tcache_count t.tcache_bins

abbrev pub opening : Tunables → ℕ → CacheValue → Call CacheValue
opening t thread cache =
    if is_open cache then Done cache
    else then_call (search t thread structure_bytes structure_bytes (Take structure_size) cache) (λ x.
    Done (cache_with_structure t x.block x.cache))

-- ---- a block for a request

-- what a call gets with the thread's cache: a block, where there is one, and where it came from
abbrev pub Supplied : Type 0
Supplied = Option Supply × CacheValue

abbrev pub supply_of : Block → Origin → Supply
supply_of b from = record { block = b; from = from }

abbrev pub supplied_by : Searched → Supplied
supplied_by x = (option_map (λ b. supply_of b (origin_of x.place b)) x.block, x.cache)

-- a search, for which an arena is chosen for so many bytes, at the second try for as many as `again`
abbrev pub from_arena : Tunables → ℕ → ℕ → ℕ → Act → CacheValue → Call Supplied
from_arena t thread bytes again act cache = then_call (search t thread bytes again act cache) (λ x. Done (supplied_by x))

-- the newest chunk of its list in the cache, else one from an arena, for a request of so many bytes
abbrev pub from_cache : Tunables → ℕ → ℕ → ℕ → Option Block → CacheValue → Call Supplied
from_cache t thread bytes nb None cache = from_arena t thread bytes bytes (Take nb) cache
from_cache t thread bytes nb (Some b) cache = Done (Some (supply_of b origins.Cached), without_newest_of nb cache)

-- the cache is opened where it is closed, and asked first
abbrev pub plain_supply : Tunables → ℕ → ℕ → ℕ → CacheValue → Call Supplied
plain_supply t thread bytes nb cache =
    then_call (opening t thread cache) (λ c. from_cache t thread bytes nb (newest_of_size nb c) c)

-- it is opened where it is closed, and passed over
abbrev pub fresh_supply : Tunables → ℕ → ℕ → ℕ → CacheValue → Call Supplied
fresh_supply t thread bytes nb cache =
    then_call (opening t thread cache) (λ c. from_arena t thread bytes bytes (Take nb) c)

-- the block has the name then
abbrev pub own_with : ℕ → Block → CacheValue → Own → Own
own_with name b cache own = record { cache = cache; names = with_block name b own.names }

-- what is answered with a block, or without one, and what the names are then
abbrev pub reply_of : Option Supply → Reply
reply_of None = Null Refused
reply_of (Some s) = Got s.block.addr s.block.size s.from

abbrev pub names_with : ℕ → Option Supply → NameTable → NameTable
names_with name None names = names
names_with name (Some s) names = with_block name s.block names

abbrev pub answer_with : ℕ → Own → Supplied → Reply × Own
answer_with name own s = (reply_of s.0, record { cache = s.1; names = names_with name s.0 own.names })

abbrev pub named : ℕ → Own → Call Supplied → Call (Reply × Own)
named name own c = then_call c (λ s. Done (answer_with name own s))

-- ---- a block of an arena is released

-- a chunk that the cache doesn't take: into its fast bin where it is fast, else to its arena
abbrev pub past_cache : Tunables → ℕ → Block → CacheValue → Call (To × CacheValue)
past_cache t a b cache =
    if nat_le b.size t.max_fast
    then Pushes b (Done (sinks.Fast a (fast_index_of b.size), cache))
    else then_call (hold_of a (Give b.addr b.size) cache) (λ e. Done (sinks.Binned a e.place, e.cache))

-- into the cache where that takes it
abbrev pub releasing : Tunables → ℕ → Block → CacheValue → Call (To × CacheValue)
releasing t a b cache = if takes cache b then Done (sinks.Cached, with_newest cache b) else past_cache t a b cache

-- ---- what is promised of a name

-- the block that a name has, if any, is large enough for a chunk of nb bytes: a mapped one has 8 more
abbrev pub FitsName : ℕ → ℕ → NameTable → Type 0
FitsName nb name names = (b : Block) → block_at names name ≡ Some b → need_of b.arena nb ≤ b.size

-- After want of memory: the name has the block that it had, or another that is so large.
pub record HoldsStill (nb name : ℕ) (names now : NameTable) : Type 0 where
  pub block : Block
  pub at : block_at now name ≡ Some block
  pub enough : (block_at names name ≡ Some block) ⊎ (need_of block.arena nb ≤ block.size)
