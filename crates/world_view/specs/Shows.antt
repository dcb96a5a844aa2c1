-- What is true of a whole scene (this project's own): its arenas are sound and lie apart, and each used chunk stands in one
-- place. Then a report shows all of it: each tile of an arena, each mapped chunk with its place, and the bytes in use.
use Rattle.std.specs.Prelude.{◌≡◌, ℕ, ◌+◌, ◌*◌, ◌≤◌, false, List, Contains, length, map, Some, None, slice_get, sum_by, if◌then◌else◌}
use Rattle.chunk_tags.specs.BinOrder.{times_in}
use Rattle.chunk_tags.specs.declared.block.Block.{Block}
use Rattle.chunk_tags.specs.declared.tiles.Chunk.{Chunk}
use Rattle.chunk_tags.specs.declared.tiles.Tile.{Tile}
use Rattle.thread_cache.specs.Caches.{structure_of}
use Rattle.fast_bins.specs.FastPorts.{fast_bin_count}
use Rattle.fast_bins.specs.PlainBins.{FastState, chunks_of}
use Rattle.arena_rules.specs.PlainArena.{Plain, IsSound, is_main, times_used}
use Rattle.arena_rules.specs.MainPlaces.{IsPlaced, times_covered}
use Rattle.arena_rules.specs.Heaps.{header_bytes, last_heap}
use Rattle.arena_rules.specs.HeapPlaces.{IsHeapPlaced}
use Rattle.arena_holds.specs.Places.{Hands, as_chunk_of, as_mapped_byte}
use Rattle.own_blocks.specs.declared.own.Own.{Own}
use Rattle.block_names.specs.Names.{block_at}
use Rattle.own_blocks.specs.Own.{in_own}
use Rattle.stats_text.specs.declared.views.Place.{Place}
use Rattle.stats_text.specs.declared.views.Place.TheVariants.{Live, Structure, Tray}
use Rattle.stats_text.specs.declared.views.TileView.{TileView}
use Rattle.stats_text.specs.Totals.{in_use_of, in_use_bytes_of}
use Rattle.world_view.specs.Places.{view_of_tile}
use Rattle.world_view.specs.Scenes.{ArenaScene, Scene, shown_arena, mapped_of}

-- ---- a whole scene

-- all blocks, by what they weigh: those of the threads, under names, in caches and as the structures of these; and those in trays
abbrev pub in_threads : List Own → Hands
in_threads owns weigh = sum_by (λ own. in_own own weigh) owns

abbrev pub in_trays : List (ℕ × Block) → Hands
in_trays trays weigh = sum_by (λ t. weigh t.1) trays

abbrev pub in_scene : Scene → Hands
in_scene s weigh = in_threads s.owns weigh + in_trays s.trays weigh

-- how often a chunk stands in the fast bins of an arena
abbrev pub times_fast : FastState → Chunk → ℕ
times_fast fast e = times_in e (chunks_of fast)

-- how many tiles of all arenas have a byte
abbrev pub times_tiled_in : Scene → ℕ → ℕ
times_tiled_in s n = sum_by (λ a. times_covered n a.arena) s.arenas

-- An arena of a scene: it is sound, and its tiles fill its ranges; a chunk of it that is used stands just once, under a name, in
-- a cache, as the structure of one, in a tray or in a fast bin; and what stands there is used.
pub record IsWholeArena (s : Scene) (a : ArenaScene) : Type 0 where
  pub sound : IsSound a.arena
  pub main : IsPlaced a.arena
  pub heaps : is_main a.arena ≡ false → (closed : List ℕ) × IsHeapPlaced a.arena closed
  pub ten : length a.fast.bins ≡ fast_bin_count
  pub once : (e : Chunk) → times_used e a.arena ≤ 1
  pub each : (e : Chunk) → in_scene s (as_chunk_of a.arena.number e) + times_fast a.fast e ≡ times_used e a.arena

-- each arena is such, and no byte is of two tiles, of two mapped chunks, or of a tile and a mapped chunk
pub record IsWholeScene (s : Scene) : Type 0 where
  pub arenas : (i : ℕ) (a : ArenaScene) → slice_get s.arenas i ≡ Some a → IsWholeArena s a
  pub apart : (n : ℕ) → times_tiled_in s n + in_scene s (as_mapped_byte n) ≤ 1

-- ---- what is shown of it

-- where a tile of an arena lies, and where one of the report does: address and size
abbrev pub tile_span : Tile → ℕ × ℕ
tile_span t = (t.addr, t.size)

abbrev pub view_span : TileView → ℕ × ℕ
view_span t = (t.addr, t.size)

-- the bytes of an arena that are in no tile: the headers of its heaps, of which main has none
abbrev pub headers_of : Plain → ℕ
headers_of a = if is_main a then 0 else header_bytes 0 + 32 * last_heap a

-- Each tile of an arena is shown; and its bytes in use are those of the headers and of the tiles that are neither free nor top
-- nor in a fast bin.
pub record ShowsArena (s : Scene) (a : ArenaScene) : Type 0 where
  pub tiles : map view_span (shown_arena s a).tiles ≡ map tile_span a.arena.tiles
  pub in_use : in_use_of (shown_arena s a) ≡ in_use_bytes_of (shown_arena s a).tiles + headers_of a.arena

-- a block is shown with its place, where it is mapped
abbrev pub ShowsMapped : Scene → Block → Place → Type 0
ShowsMapped s b place = b.arena ≡ None → Contains (mapped_of s) (view_of_tile b.addr b.size b.lead place)

-- so are the arenas and all mapped chunks: those with names, the structures of caches, and those in trays
pub record ShowsAll (s : Scene) : Type 0 where
  pub arenas : (i : ℕ) (a : ArenaScene) → slice_get s.arenas i ≡ Some a → ShowsArena s a
  pub named : (thread name : ℕ) (own : Own) (b : Block) → slice_get s.owns thread ≡ Some own →
      block_at own.names name ≡ Some b → ShowsMapped s b (Live thread name)
  pub structures : (thread : ℕ) (own : Own) (b : Block) → slice_get s.owns thread ≡ Some own →
      structure_of own.cache ≡ Some b → ShowsMapped s b (Structure thread)
  pub trays : (i : ℕ) (t : ℕ × Block) → slice_get s.trays i ≡ Some t → ShowsMapped s t.1 (Tray t.0)
