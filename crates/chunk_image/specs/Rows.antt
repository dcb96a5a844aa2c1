-- The tiles of an arena, and which addresses have words for them (this project's own).
use Rattle.std.specs.Prelude.{◌≡◌, ℕ, ◌+◌, ◌/◌, ◌%◌, ◌^◌, ◌<◌, nat_eq, List, [], ◌∷◌, Option, Some, None, if◌then◌else◌}
use Rattle.chunk_tags.specs.declared.tiles.Tile.{Tile}
use Rattle.chunk_tags.specs.Tiles.{is_free, end_of, tile_before}
use Rattle.part_words.specs.Extents.{Extent, AreOpen}

-- the tiles in a row, by address
pub record TileRow : Type 0 where
  pub tiles : List Tile
  pub extent : Extent

-- no tiles, over parts that begin at a base and every stride after it
abbrev pub no_tiles : ℕ → ℕ → TileRow
no_tiles base stride = record { tiles = []; extent = record { base = base; width = stride / 16; words = [] } }

-- some bytes from an address on have words, and end below 2^64
pub record IsRoom (e : Extent) (at size : ℕ) : Type 0 where
  pub words : AreOpen e at size
  pub end : at + size < 2 ^ 64

-- a size that a word can say: whole units of 16 bytes, and less than 16 GiB
pub record IsWordSize (size : ℕ) : Type 0 where
  pub whole : size % 16 ≡ 0
  pub below : size < 2 ^ 34

abbrev pub where_free : Option Tile → Option Tile
where_free None = None
where_free (Some t) = if is_free t then Some t else None

-- the tile before the one at an address, where it is free (prev_inuse and prev_chunk)
abbrev pub free_before_of : ℕ → List Tile → Option Tile
free_before_of at ts = where_free (tile_before at ts)

-- the tile that ends at an address, the first where there are several (in a row there aren't)
abbrev pub tile_ending : ℕ → List Tile → Option Tile
tile_ending end [] = None
tile_ending end (t ∷ ts) = if nat_eq (end_of t) end then Some t else tile_ending end ts
