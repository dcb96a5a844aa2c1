-- An arena as its regions, its tiles and its bins together make it (this project's own; glibc 2.31 malloc/malloc.c
-- keeps the numbers of regions in malloc_state, mp_ and heap_info).
use Rattle.std.specs.Prelude.{◌≡◌, ℕ, ◌+◌, ◌^◌, ◌<◌, ◌≤◌, Bool, false, List, [], ◌∷◌, Option, Some, None, vec_capacity}
use Rattle.chunk_tags.specs.declared.tiles.Chunk.{Chunk}
use Rattle.chunk_tags.specs.Tiles.{is_edge, Row, swapped, fused, tile_at, tile_behind, top_of}
use Rattle.chunk_tags.specs.declared.tiles.Tile.{Tile}
use Rattle.chunk_tags.specs.declared.tiles.TileKind.TheVariants.{Top}
use Rattle.arena_rules.specs.PlainArena.{Plain}
use Rattle.arena_rules.specs.Moves.{tile_of, closed_top}
use Rattle.arena_rules.specs.Heaps.{is_first_in_heap}
use Rattle.arena_rules.specs.HeapPlaces.{IsHeapPlaced}
use Rattle.arena_rules.specs.declared.heap_end.HeapEnd.{HeapEnd}
use Rattle.heap_top.specs.declared.regions.Regions.{Regions}

-- the arena of these regions, tiles, bins and last remainder
abbrev pub arena_of : Regions → List Tile → List (List Chunk) → Option ℕ → Plain
arena_of r tiles bins last = record {
  number = r.number;
  windows = record { heap_max = r.heap_max; heaps = r.heaps };
  tiles = tiles;
  bins = bins;
  last = last;
  contiguous = r.contiguous;
  break_at = r.break_at;
  next_piece = r.next_piece;
  system = r.system;
  most = r.most;
}

-- the same, seen without its bins
abbrev pub bare_arena : Regions → List Tile → Plain
bare_arena r tiles = arena_of r tiles [] None

abbrev pub address_of : Option Tile → Option ℕ
address_of None = None
address_of (Some t) = Some t.addr

-- the tiles with top closed, where there is one
abbrev pub closed_tiles : List Tile → List Tile
closed_tiles ts = elim (top_of ts) [ None ↦ ts | Some t ↦ swapped t.addr (closed_top t) ts ]

-- tiles in a row, of which the one at this address is top
pub record KnowsTop (top : Option ℕ) (ts : List Tile) : Type 0 where
  pub row : Row ts
  pub is : address_of (top_of ts) ≡ top

-- a tile that is top stands at this address
pub record HasTop (top : Option ℕ) (ts : List Tile) : Type 0 where
  pub at : ℕ
  pub size : ℕ
  pub known : top ≡ Some at
  pub stands : tile_at at ts ≡ Some (tile_of Top at size)

-- Regions of another arena: top is known, the tiles fill the heaps, and there is room for the lengths of all of them.
pub record IsOther (r : Regions) (ts : List Tile) : Type 0 where
  pub known : KnowsTop r.top ts
  pub placed : IsHeapPlaced (bare_arena r ts) r.closed.items
  pub room : r.heaps ≤ vec_capacity r.closed

-- a chunk that stands before a fence
pub record IsBeforeFence (u f : Tile) (ts : List Tile) : Type 0 where
  pub found : tile_at u.addr ts ≡ Some u
  pub chunk : is_edge u ≡ false
  pub behind : tile_behind u.addr ts ≡ Some f
  pub below : u.size + f.size < 2 ^ 34

-- the tiles with the end of a heap as one tile that is top
abbrev pub reopened_tiles : HeapEnd → List Tile → List Tile
reopened_tiles e ts = elim e.before [
  | None ↦ swapped e.fence.addr (record e.fence { kind = Top } ∷ []) ts
  | Some u ↦ fused u.addr (record u { size = u.size + e.fence.size; kind = Top }) ts
]

-- whether top is the first chunk of a later heap
abbrev pub is_top_first : Plain → Bool
is_top_first a = elim (top_of a.tiles) [ None ↦ false | Some top ↦ is_first_in_heap a top ]
