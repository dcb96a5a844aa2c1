-- What a thread has of its own: its cache, glibc 2.31 malloc/malloc.c's tcache, and its blocks by name; and the calls
-- that need no more, as in __libc_malloc and _int_free.
use Rattle.std.specs.Prelude.{ℕ, ◌+◌, nat_le, Option, Some, None, if◌then◌else◌}
use Rattle.std.specs.Option.{option_and_then}
use Rattle.chunk_tags.specs.Sizes.{padded_request, max_cached, cache_index_of}
use Rattle.chunk_tags.specs.declared.block.Block.{Block}
use Rattle.thread_cache.specs.Caches.{CacheValue, newest, without_newest, with_newest, takes}
use Rattle.arena_holds.specs.Places.{Hands, weight_of, in_cache}
use Rattle.block_names.specs.Names.{NameTable, no_names, block_at, with_block, without_block, weight_in}
use Rattle.own_blocks.specs.declared.own.Own.{Own}
use Rattle.own_blocks.specs.declared.cached.CachedFree.{CachedFree}
use Rattle.own_blocks.specs.declared.cached.CachedFree.TheVariants.{Done, NotYours, NoRoom}

-- a closed cache and no blocks
abbrev pub new_own : Own
new_own = record { cache = None; names = no_names }

-- ---- its blocks in hands

-- the blocks that have names
abbrev pub in_names : NameTable → Hands
in_names names weigh = weight_in names (λ o. weight_of o weigh)

-- the blocks of a thread
abbrev pub in_own : Own → Hands
in_own own weigh = in_names own.names weigh + in_cache own.cache weigh

-- ---- malloc and free, as far as the cache answers

-- the newest block of the list for a chunk size, where the size is cached at all
abbrev pub newest_of_size : ℕ → CacheValue → Option Block
newest_of_size nb cache = if nat_le nb max_cached then newest cache (cache_index_of nb) else None

abbrev pub without_newest_of : ℕ → CacheValue → CacheValue
without_newest_of nb cache = if nat_le nb max_cached then without_newest cache (cache_index_of nb) else cache

-- the block that the cache has for a request
abbrev pub cached_for : ℕ → CacheValue → Option Block
cached_for size cache = option_and_then (λ nb. newest_of_size nb cache) (padded_request size)

-- it leaves the cache, and has a name
abbrev pub with_cached_block : ℕ → ℕ → Option Block → Own → Own
with_cached_block name nb None own = own
with_cached_block name nb (Some b) own = record { cache = without_newest_of nb own.cache; names = with_block name b own.names }

abbrev pub cached_malloc_of : ℕ → ℕ → Own → Own
cached_malloc_of name size own =
    elim (padded_request size) [ None ↦ own | Some nb ↦ with_cached_block name nb (newest_of_size nb own.cache) own ]

-- a block goes from its name into the cache, where that takes it
abbrev pub cached_end : Own → Option Block → CachedFree
cached_end own None = NotYours
cached_end own (Some b) = if takes own.cache b then Done else NoRoom

abbrev pub into_cache : ℕ → Option Block → Own → Own
into_cache name None own = own
into_cache name (Some b) own =
    if takes own.cache b then record { cache = with_newest own.cache b; names = without_block name own.names } else own

abbrev pub cached_free_of : ℕ → Own → Own
cached_free_of name own = into_cache name (block_at own.names name) own
