-- Another arena as the tests have it (this project's own): arena 1 with two heaps, of which the second goes again, and its
-- regions, with words for both windows.
use Rattle.std.specs.Prelude.{◌≡◌, ℕ, ◌+◌, ◌≤◌, List, [], ◌∷◌, Some, vec_capacity}
use Rattle.chunk_tags.specs.declared.tiles.Chunk.{Chunk}
use Rattle.chunk_tags.specs.declared.tiles.TileKind.TheVariants.{Free, Fence}
use Rattle.part_words.specs.Extents.{Extent}
use Rattle.address_space.specs.Spaces.{heaps_start}
use Rattle.chunk_image.specs.Rows.{TileRow}
use Rattle.arena_rules.specs.PlainArena.{Plain, HeapWindows}
use Rattle.arena_rules.specs.Moves.{cut_from_top, shelved, tile_of}
use Rattle.arena_rules.specs.Heaps.{heap_added, heap_extended, heap_shortened, opened_arena, unopened, without_heap}
use Rattle.arena_rules.specs.declared.heap_end.HeapEnd.{HeapEnd}
use Rattle.heap_top.specs.Regions.{arena_of, KnowsTop}
use Rattle.heap_top.specs.declared.regions.Regions.{Regions}

-- arena 1, with windows for two heaps of 64 KiB
abbrev pub two_windows : HeapWindows
two_windows = record { heap_max = 65536; heaps = 2 }

-- its heap 0 with a chunk of 1024 bytes, and then a page longer
abbrev pub one_heap : Plain
one_heap = cut_from_top (opened_arena (unopened 1 two_windows) 8192) 1024

abbrev pub longer_heap : Plain
longer_heap = heap_extended one_heap 4096

-- with a second heap, and what was left of top in heap 0 free
abbrev pub two_heaps : Plain
two_heaps = heap_added longer_heap 8192

abbrev pub rest_chunk : Chunk
rest_chunk = record { at = heaps_start + 3264; size = 8992 }

abbrev pub free_rest : Plain
free_rest = shelved two_heaps rest_chunk

-- the end of heap 0, and the arena without the second heap
abbrev pub first_end : HeapEnd
first_end = record {
  fence = tile_of Fence (heaps_start + 12256) 32;
  before = Some (tile_of Free (heaps_start + 3264) 8992);
  room = 53248;
}

abbrev pub heap_again : Plain
heap_again = without_heap free_rest first_end

-- and a page shorter
abbrev pub shorter_heap : Plain
shorter_heap = heap_shortened heap_again 4096

-- words for both windows
abbrev pub heap_words : Extent
heap_words = record { base = heaps_start; width = 4096; words = 4096 ∷ 4096 ∷ [] }

-- regions that are this arena's, with heaps of these lengths before the last one
pub record IsHeapScene (r : Regions) (w : TileRow) (a : Plain) (lens : List ℕ) : Type 0 where
  pub arena : arena_of r w.tiles a.bins a.last ≡ a
  pub closed : r.closed.items ≡ lens
  pub known : KnowsTop r.top w.tiles
  pub room : r.heaps ≤ vec_capacity r.closed
  pub words : w.extent ≡ heap_words
