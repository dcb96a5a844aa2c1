-- A thread's cache: tcache_put, tcache_get, tcache_init and tcache_thread_shutdown of glibc 2.31 malloc/malloc.c.
use Rattle.std.specs.Prelude.{ℕ, Bool, false, true, ◌&&◌, nat_lt, nat_le, List, [], ◌∷◌, drop, length, map, replicate, Option, Some, None, is_some, slice_get, slice_index_or, slice_set}
use Rattle.std.specs.List.{flat_map}
use Rattle.chunk_tags.specs.Sizes.{max_cached, cache_index_of}
use Rattle.chunk_tags.specs.declared.block.Block.{Block}
use Rattle.chunk_tags.specs.declared.tiles.Tile.{Tile}
use Rattle.chunk_tags.specs.declared.tiles.TileKind.TheVariants.{Used}

-- An open cache: the chunk of its structure, how many blocks a list takes, how many lists are used, and the
-- 64 lists, each newest first.
pub record Opened : Type 0 where
  pub structure : Block
  pub count : ℕ
  pub bins : ℕ
  pub lists : List (List Block)

-- a cache is closed, or open
abbrev pub CacheValue : Type 0
CacheValue = Option Opened

-- the lists of a cache that was just opened: 64 (TCACHE_MAX_BINS)
unfoldable pub empty_cache_lists : List (List Block)
empty_cache_lists = replicate 64 []

-- a cache as it is opened
abbrev pub opened_cache : Block → ℕ → ℕ → CacheValue
opened_cache structure count bins = Some (record { structure = structure; count = count; bins = bins; lists = empty_cache_lists })

abbrev pub is_open : CacheValue → Bool
is_open None = false
is_open (Some c) = true

-- the list at an index, newest first
abbrev pub list_of : CacheValue → ℕ → List Block
list_of None i = []
list_of (Some c) i = slice_index_or c.lists i []

-- the same cache with another list at an index
abbrev pub with_list : CacheValue → ℕ → List Block → CacheValue
with_list None i blocks = None
with_list (Some c) i blocks = Some (record c { lists = slice_set c.lists i blocks })

-- whether one more chunk of this size is taken: a cached size, a list that is used, and fewer blocks than the count
abbrev pub has_room : CacheValue → ℕ → Bool
has_room None s = false
has_room (Some c) s =
    nat_le s max_cached && nat_lt (cache_index_of s) c.bins && nat_lt (length (list_of (Some c) (cache_index_of s))) c.count

-- whether a block is taken: there is room for its size, and it isn't mapped
abbrev pub takes : CacheValue → Block → Bool
takes c b = has_room c b.size && is_some b.arena

-- the newest block of a list, and the cache without it
abbrev pub newest : CacheValue → ℕ → Option Block
newest c i = slice_get (list_of c i) 0

abbrev pub without_newest : CacheValue → ℕ → CacheValue
without_newest c i = with_list c i (drop 1 (list_of c i))

-- the cache with a block as the newest of the list for its size
abbrev pub with_newest : CacheValue → Block → CacheValue
with_newest c b = with_list c (cache_index_of b.size) (b ∷ list_of c (cache_index_of b.size))

-- all blocks of a cache: lists ascending, newest first
abbrev pub blocks_of : CacheValue → List Block
blocks_of None = []
blocks_of (Some c) = flat_map (λ blocks. blocks) c.lists

-- the newest block of the lowest list that has one, and the lists without it
abbrev pub first_of : List (List Block) → Option Block
first_of [] = None
first_of ([] ∷ lists) = first_of lists
first_of ((b ∷ blocks) ∷ lists) = Some b

abbrev pub without_first : List (List Block) → List (List Block)
without_first [] = []
without_first ([] ∷ lists) = [] ∷ without_first lists
without_first ((b ∷ blocks) ∷ lists) = blocks ∷ lists

-- the next block of a cache that is emptied, and the cache without it
abbrev pub next_drained : CacheValue → Option Block
next_drained None = None
next_drained (Some c) = first_of c.lists

abbrev pub without_next : CacheValue → CacheValue
without_next None = None
without_next (Some c) = Some (record c { lists = without_first c.lists })

-- the chunk of an open cache's structure
abbrev pub structure_of : CacheValue → Option Block
structure_of None = None
structure_of (Some c) = Some c.structure

-- the addresses in each list, newest first; a closed cache has no lists
abbrev pub addresses_of : CacheValue → List (List ℕ)
addresses_of None = []
addresses_of (Some c) = map (λ blocks. map (λ b. b.addr) blocks) c.lists

-- a cached block as a tile: its chunk is used, also while it is cached
abbrev pub block_tile : Block → Tile
block_tile b = record { addr = b.addr; size = b.size; kind = Used }

-- all blocks as tiles, in the order of blocks_of
abbrev pub cached_tiles : CacheValue → List Tile
cached_tiles c = map block_tile (blocks_of c)
