-- The moves of which every rule is made. Each keeps an arena sound: glibc 2.31 malloc/malloc.c, unlink_chunk and the
-- writes of heads and of top in _int_malloc, _int_free and sysmalloc.
use Rattle.std.specs.Prelude.{◌≡◌, ℕ, ◌+◌, ◌-◌, Bool, false, nat_lt, List, [], ◌∷◌, Option, Some, None, if◌then◌else◌}
use Rattle.chunk_tags.specs.declared.tiles.Chunk.{Chunk}
use Rattle.chunk_tags.specs.Tiles.{is_free, is_top, swapped, fused, entered, tile_before, tile_behind, top_of, end_of}
use Rattle.chunk_tags.specs.declared.tiles.Tile.{Tile}
use Rattle.chunk_tags.specs.declared.tiles.TileKind.{TileKind}
use Rattle.chunk_tags.specs.declared.tiles.TileKind.TheVariants.{Used, Free, Top, Fence}
use Rattle.arena_rules.specs.PlainArena.{Plain, IsSound, with_front, unlinked, times_used, once_of}

abbrev pub tile_of : TileKind → ℕ → ℕ → Tile
tile_of kind at size = record { addr = at; size = size; kind = kind }

abbrev pub chunk_of : Tile → Chunk
chunk_of t = record { at = t.addr; size = t.size }

-- the arena with the tile at an address become some tiles
abbrev pub with_tiles : Plain → ℕ → List Tile → Plain
with_tiles a at news = record a { tiles = swapped at news a.tiles }

-- A free chunk leaves its bin, and is used.
abbrev pub claimed : Plain → Chunk → Plain
claimed a c = with_tiles (unlinked a c) c.at (tile_of Used c.at c.size ∷ [])

-- A used chunk is free, and in front of unsorted.
abbrev pub shelved : Plain → Chunk → Plain
shelved a c = with_front (with_tiles a c.at (tile_of Free c.at c.size ∷ [])) 1 c

-- A used chunk becomes two, the first of nb bytes.
abbrev pub parted : Plain → Chunk → ℕ → Plain
parted a c nb = with_tiles a c.at (tile_of Used c.at nb ∷ tile_of Used (c.at + nb) (c.size - nb) ∷ [])

-- a chunk, and the arena in which it is
pub record Hand : Type 0 where
  pub chunk : Chunk
  pub arena : Plain

abbrev pub hand : Chunk → Plain → Hand
hand c a = record { chunk = c; arena = a }

-- A used chunk and a free tile next to it become one chunk, from the first one's address on, which is used. The free
-- one leaves its bin.
abbrev pub joined : Hand → Tile → ℕ → Hand
joined h t at = record {
  chunk = record { at = at; size = h.chunk.size + t.size };
  arena = record (unlinked h.arena (chunk_of t)) { tiles = fused at (tile_of Used at (h.chunk.size + t.size)) h.arena.tiles };
}

-- A used chunk is joined with the chunk before it where that is free.
abbrev pub joined_before : Hand → Hand
joined_before h = elim (tile_before h.chunk.at h.arena.tiles) [
  | None ↦ h
  | Some t ↦ if is_free t then joined h t t.addr else h
]

-- The same with the chunk behind it.
abbrev pub joined_behind : Hand → Hand
joined_behind h = elim (tile_behind h.chunk.at h.arena.tiles) [
  | None ↦ h
  | Some t ↦ if is_free t then joined h t h.chunk.at else h
]

-- whether top is the tile behind a chunk
abbrev pub is_before_top : Plain → Chunk → Bool
is_before_top a c = elim (tile_behind c.at a.tiles) [ None ↦ false | Some t ↦ is_top t ]

abbrev pub is_free_tile : Option Tile → Bool
is_free_tile None = false
is_free_tile (Some t) = is_free t

-- a chunk with no free tile before or behind it, and not before top
pub record StandsAlone (a : Plain) (c : Chunk) : Type 0 where
  pub before : is_free_tile (tile_before c.at a.tiles) ≡ false
  pub behind : is_free_tile (tile_behind c.at a.tiles) ≡ false
  pub top : is_before_top a c ≡ false

-- the size of top, 0 where there is none
abbrev pub top_size : Plain → ℕ
top_size a = elim (top_of a.tiles) [ None ↦ 0 | Some t ↦ t.size ]

-- the address behind top, 0 where there is none
abbrev pub top_end : Plain → ℕ
top_end a = elim (top_of a.tiles) [ None ↦ 0 | Some t ↦ end_of t ]

-- the address of top, 0 where there is none
abbrev pub top_start : Plain → ℕ
top_start a = elim (top_of a.tiles) [ None ↦ 0 | Some t ↦ t.addr ]

-- A used chunk before top becomes part of it.
abbrev pub absorbed : Plain → Chunk → Plain
absorbed a c = record a { tiles = fused c.at (tile_of Top c.at (c.size + top_size a)) a.tiles }

-- A chunk of nb bytes is cut off top's front.
abbrev pub cut_from_top : Plain → ℕ → Plain
cut_from_top a nb = elim (top_of a.tiles) [
  | None ↦ a
  | Some t ↦ with_tiles a t.addr (tile_of Used t.addr nb ∷ tile_of Top (t.addr + nb) (t.size - nb) ∷ [])
]

-- Top has another size.
abbrev pub with_top_size : Plain → ℕ → Plain
with_top_size a size = elim (top_of a.tiles) [ None ↦ a | Some t ↦ with_tiles a t.addr (tile_of Top t.addr size ∷ []) ]

-- A new range is top.
abbrev pub with_new_top : Plain → ℕ → ℕ → Plain
with_new_top a at size = record a { tiles = entered (tile_of Top at size) a.tiles }

-- What becomes of a top that is left: its last 32 bytes are a fence, and what is before them a used chunk; where less
-- than 32 bytes were left, all of it is fence.
abbrev pub closed_top : Tile → List Tile
closed_top t =
    if nat_lt t.size 64
    then tile_of Fence t.addr t.size ∷ []
    else tile_of Used t.addr (t.size - 32) ∷ tile_of Fence (t.addr + (t.size - 32)) 32 ∷ []

-- Top moves to a new range, and the old one, where there is one, is closed.
abbrev pub with_moved_top : Plain → ℕ → ℕ → Plain
with_moved_top a at size = elim (top_of a.tiles) [
  | None ↦ with_new_top a at size
  | Some t ↦ with_new_top (with_tiles a t.addr (closed_top t)) at size
]

-- the used chunk that a closed top leaves
abbrev pub left_of_closed : Tile → Option Chunk
left_of_closed t = if nat_lt t.size 64 then None else Some (record { at = t.addr; size = t.size - 32 })

abbrev pub left_of_top : Plain → Option Chunk
left_of_top a = elim (top_of a.tiles) [ None ↦ None | Some t ↦ left_of_closed t ]

-- A move after which the arena is sound, and its used chunks are those that there were, with one that may have come.
pub record Gains (a : Plain) (came : Option Chunk) (b : Plain) : Type 0 where
  pub sound : IsSound b
  pub used : (e : Chunk) → times_used e b ≡ times_used e a + once_of e came
