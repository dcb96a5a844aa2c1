-- What is true of every open cache: glibc 2.31 malloc/malloc.c, whose tcache_put puts a chunk into the list of its
-- size (csize2tidx) while that list is shorter than tcache_count, and never a mapped chunk.
use Rattle.std.specs.Prelude.{◌≡◌, ℕ, ◌≤◌, List, [], length, IsSome, slice_index_or}
use Rattle.std.specs.List.{AllByRecursion}
use Rattle.chunk_tags.specs.Sizes.{IsChunkSize, cache_index_of}
use Rattle.chunk_tags.specs.declared.block.Block.{Block}
use Rattle.thread_cache.specs.Caches.{Opened}

-- a block that the list at this index may have: a chunk of an arena, of a size that has this list
pub record IsCachedAt (i : ℕ) (b : Block) : Type 0 where
  pub chunk : IsChunkSize b.size
  pub index : cache_index_of b.size ≡ i
  pub arena : IsSome b.arena

-- a list at an index: no longer than the count, and each block belongs there
pub record IsListAt (count i : ℕ) (blocks : List Block) : Type 0 where
  pub short : length blocks ≤ count
  pub cached : AllByRecursion (IsCachedAt i) blocks

-- 64 lists, each at its index; those that aren't used are empty
pub record IsSoundCache (c : Opened) : Type 0 where
  pub count : c.count ≤ 127
  pub bins : c.bins ≤ 64
  pub width : length c.lists ≡ 64
  pub lists : (i : ℕ) → IsListAt c.count i (slice_index_or c.lists i [])
  pub unused : (i : ℕ) → c.bins ≤ i → slice_index_or c.lists i [] ≡ []
