-- Chunks side by side: one row of all tiles of an arena, by address (this project's own; the C code finds them by
-- their size words). A region of the arena ends with an edge, its top or its fence, so the regions can be read off
-- the row.
use Rattle.std.specs.Prelude.{◌≡◌, ℕ, ◌+◌, ◌%◌, ◌≤◌, Bool, true, false, ◌||◌, ◌&&◌, nat_eq, nat_lt, List, [], ◌∷◌, ◌++◌, drop, Option, Some, None, if◌then◌else◌, count_by}
use Rattle.chunk_tags.specs.declared.tiles.Tile.{Tile}
use Rattle.chunk_tags.specs.declared.tiles.TileKind.{TileKind}
use Rattle.chunk_tags.specs.declared.tiles.TileKind.TheVariants.{Used, Free, Top, Fence}
use Rattle.chunk_tags.specs.Sizes.{IsChunkSize}

abbrev pub is_used : Tile → Bool
is_used t = elim t.kind [ Used ↦ true | Free ↦ false | Top ↦ false | Fence ↦ false ]

abbrev pub is_free : Tile → Bool
is_free t = elim t.kind [ Used ↦ false | Free ↦ true | Top ↦ false | Fence ↦ false ]

abbrev pub is_top : Tile → Bool
is_top t = elim t.kind [ Used ↦ false | Free ↦ false | Top ↦ true | Fence ↦ false ]

abbrev pub is_fence : Tile → Bool
is_fence t = elim t.kind [ Used ↦ false | Free ↦ false | Top ↦ false | Fence ↦ true ]

-- what ends a region
abbrev pub is_edge : Tile → Bool
is_edge t = is_top t || is_fence t

-- the address behind a tile
abbrev pub end_of : Tile → ℕ
end_of t = t.addr + t.size

-- a tile has the size of a chunk, at a multiple of 16
pub record IsTile (t : Tile) : Type 0 where
  pub size : IsChunkSize t.size
  pub place : t.addr % 16 ≡ 0

-- A tile and the next one of the row: by address; side by side where the first ends no region; and no free tile
-- before a free tile or before top.
pub record Meets (t u : Tile) : Type 0 where
  pub order : end_of t ≤ u.addr
  pub joins : is_edge t ≡ false → end_of t ≡ u.addr
  pub apart : is_free t && (is_free u || is_top u) ≡ false

-- A tile may stand before these: it meets the first of them, or ends a region where there is none.
abbrev pub Leads : Tile → List Tile → Type 0
Leads t [] = is_edge t ≡ true
Leads t (u ∷ us) = Meets t u

-- tiles in a row, the last of which ends a region
abbrev pub Row : List Tile → Type 0
Row [] = Unit {0}
Row (t ∷ ts) = IsTile t × Leads t ts × Row ts

-- Changes of a row, named by the address of a tile.

-- the tile at an address becomes some tiles
abbrev pub swapped : ℕ → List Tile → List Tile → List Tile
swapped at news [] = []
swapped at news (t ∷ ts) = if nat_eq t.addr at then news ++ ts else t ∷ swapped at news ts

-- the tile at an address and the next one become one
abbrev pub fused : ℕ → Tile → List Tile → List Tile
fused at x [] = []
fused at x (t ∷ ts) = if nat_eq t.addr at then x ∷ drop 1 ts else t ∷ fused at x ts

-- a tile of a new range, in its place by address
abbrev pub entered : Tile → List Tile → List Tile
entered x [] = x ∷ []
entered x (t ∷ ts) = if nat_lt x.addr t.addr then x ∷ t ∷ ts else t ∷ entered x ts

-- Look-ups.

-- the tile at an address
abbrev pub tile_at : ℕ → List Tile → Option Tile
tile_at at [] = None
tile_at at (t ∷ ts) = if nat_eq t.addr at then Some t else tile_at at ts

-- the tile before the one at an address, in the row
abbrev pub tile_before : ℕ → List Tile → Option Tile
tile_before at [] = None
tile_before at (t ∷ []) = None
tile_before at (t ∷ u ∷ us) = if nat_eq u.addr at then Some t else tile_before at (u ∷ us)

-- the tile behind the one at an address, in the row
abbrev pub tile_behind : ℕ → List Tile → Option Tile
tile_behind at [] = None
tile_behind at (t ∷ []) = None
tile_behind at (t ∷ u ∷ us) = if nat_eq t.addr at then Some u else tile_behind at (u ∷ us)

-- top, where there is one
abbrev pub top_of : List Tile → Option Tile
top_of [] = None
top_of (t ∷ ts) = if is_top t then Some t else top_of ts
