-- A plain arena as words say it: tiles by address, and bins of addresses, whose sizes are those of the tiles (this
-- project's own).
use Rattle.std.specs.Prelude.{◌≡◌, ℕ, ◌-◌, ◌/◌, ◌<◌, ◌≤◌, false, List, [], Option, Some, None, map, if◌then◌else◌, IsTrue, vec_capacity}
use Rattle.chunk_tags.specs.declared.tiles.Chunk.{Chunk}
use Rattle.chunk_tags.specs.declared.tiles.Tile.{Tile}
use Rattle.chunk_tags.specs.Sizes.{is_small_size, small_index_of}
use Rattle.part_words.specs.Extents.{Extent, IsWider}
use Rattle.ordinary_bins.specs.Lists.{Linked, put_front, without}
use Rattle.chunk_image.specs.Rows.{TileRow}
use Rattle.large_bins.specs.FirstChunks.{AreFirsts}
use Rattle.large_bins.specs.SeenChunks.{size_at, put_large}
use Rattle.address_space.specs.Spaces.{main_start, piece_start}
use Rattle.arena_rules.specs.PlainArena.{Plain, is_main}
use Rattle.heap_top.specs.declared.regions.Regions.{Regions}
use Rattle.heap_top.specs.Regions.{arena_of, KnowsTop}
use Rattle.arena_rules.specs.MainPlaces.{IsMainPlaced}
use Rattle.arena_rules.specs.Heaps.{heap_start}
use Rattle.arena_rules.specs.HeapPlaces.{IsHeapPlaced}

-- the arena, and which addresses have words
pub record GroundView : Type 0 where
  pub arena : Plain
  pub extent : Extent

-- the chunk at an address, as large as its tile
abbrev pub tile_chunk : List Tile → ℕ → Chunk
tile_chunk ts at = record { at = at; size = size_at ts at }

abbrev pub chunks_at : List Tile → List ℕ → List Chunk
chunks_at ts xs = map (tile_chunk ts) xs

abbrev pub bins_at : List Tile → List (List ℕ) → List (List Chunk)
bins_at ts lists = map (chunks_at ts) lists

-- the lists after a chunk went to the bin of its size
abbrev pub sorted_lists : List Tile → Chunk → List (List ℕ) → List (List ℕ)
sorted_lists ts c lists =
    let rest = map (without c.at) lists in
    if is_small_size c.size then put_front (small_index_of c.size) c.at rest else put_large ts c rest

-- the lists without a chunk, where there is one
abbrev pub lists_without : Option ℕ → List (List ℕ) → List (List ℕ)
lists_without None lists = lists
lists_without (Some at) lists = map (without at) lists

-- the arena of these parts
abbrev pub arena_with : Regions → TileRow → Linked → Option ℕ → Plain
arena_with r w l last = arena_of r w.tiles (bins_at w.tiles l.lists) last

abbrev pub view_of : Regions → TileRow → Linked → Option ℕ → GroundView
view_of r w l last = record { arena = arena_with r w l last; extent = w.extent }

-- where the words of an arena begin, and how many bytes lie from the beginning of a part to that of the next: main's
-- pieces are its second part, and each heap of another arena is a part
abbrev pub words_start : Plain → ℕ
words_start a = if is_main a then main_start else heap_start a 0

abbrev pub part_bytes : Plain → ℕ
part_bytes a = if is_main a then piece_start - main_start else a.windows.heap_max

-- main fills its ranges, and another arena its heaps, of which these are closed
pub record IsPlacedIn (a : Plain) (closed : List ℕ) : Type 0 where
  pub main : IsTrue (is_main a) → IsMainPlaced a
  pub other : is_main a ≡ false → IsHeapPlaced a closed

-- what is always so: the regions know its top and have room for the lengths of all heaps; each tile's address has a link
-- word; and the words begin where the arena does
pub record IsGround (r : Regions) (w : TileRow) (l : Linked) (last : Option ℕ) : Type 0 where
  pub known : KnowsTop r.top w.tiles
  pub placed : IsPlacedIn (arena_with r w l last) r.closed.items
  pub room : r.heaps ≤ vec_capacity r.closed
  pub covers : IsWider w.extent l.extent
  pub base : w.extent.base ≡ words_start (arena_with r w l last)
  pub width : w.extent.width ≡ part_bytes (arena_with r w l last) / 16

-- the first chunk of each size of large bins, said of chunks with their sizes: what leaves the bins as they are leaves them
-- too. They have link words wherever the bins have them
pub record HaveFirsts (bins : List (List Chunk)) (e : Extent) (firsts : Linked) : Type 0 where
  pub each : AreFirsts bins firsts.lists
  pub wider : IsWider e firsts.extent

-- a ground with these
pub record IsOrdered (r : Regions) (w : TileRow) (l : Linked) (last : Option ℕ) (heads : Linked) : Type 0 where
  pub ground : IsGround r w l last
  pub firsts : HaveFirsts (bins_at w.tiles l.lists) l.extent heads
