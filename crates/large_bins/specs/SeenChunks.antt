-- Listed chunks with the sizes of their tiles (this project's own).
use Rattle.std.specs.Prelude.{ℕ, ◌≤◌, List, Option, Some, None, map, slice_set, IsSome}
use Rattle.chunk_tags.specs.declared.tiles.Tile.{Tile}
use Rattle.chunk_tags.specs.Sizes.{large_index_of}
use Rattle.chunk_tags.specs.Tiles.{tile_at}
use Rattle.chunk_tags.specs.declared.tiles.Chunk.{Chunk}
use Rattle.ordinary_bins.specs.Lists.{list_at, times_listed}
use Rattle.chunk_tags.specs.BinOrder.{inserted}

abbrev pub size_in : Option Tile → ℕ
size_in None = 0
size_in (Some t) = t.size

-- the size of the tile at an address
abbrev pub size_at : List Tile → ℕ → ℕ
size_at tiles at = size_in (tile_at at tiles)

-- the chunks at some addresses, by a function that tells their sizes
abbrev pub chunks_by : (ℕ → ℕ) → List ℕ → List Chunk
chunks_by size xs = map (λ at. record { at = at; size = size at }) xs

-- the chunks of each bin
abbrev pub bins_by : (ℕ → ℕ) → List (List ℕ) → List (List Chunk)
bins_by size lists = map (chunks_by size) lists

-- the chunks of the large bin for a size
abbrev pub large_chunks : List Tile → ℕ → List (List ℕ) → List Chunk
large_chunks tiles size lists = chunks_by (size_at tiles) (list_at (large_index_of size) lists)

-- the lists with a chunk in the large bin for its size
abbrev pub put_large : List Tile → Chunk → List (List ℕ) → List (List ℕ)
put_large tiles c lists =
    slice_set lists (large_index_of c.size) (map (λ x. x.at) (inserted c (large_chunks tiles c.size lists)))

-- each listed chunk has a tile
pub record HaveTiles (tiles : List Tile) (lists : List (List ℕ)) : Type 0 where
  pub each : (n : ℕ) → 1 ≤ times_listed n lists → IsSome (tile_at n tiles)
