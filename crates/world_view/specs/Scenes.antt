-- What a report shows of threads, arenas and trays between two calls (this project's own).
use Rattle.std.specs.Prelude.{◌≡◌, ℕ, ◌+◌, ◌==◌, List, [], ◌∷◌, ◌++◌, map, length, if◌then◌else◌}
use Rattle.std.specs.List.{AllByRecursion, flat_map}
use Rattle.chunk_tags.specs.declared.block.Block.{Block}
use Rattle.thread_cache.specs.Caches.{addresses_of}
use Rattle.fast_bins.specs.FastPorts.{fast_bin_count}
use Rattle.fast_bins.specs.PlainBins.{FastState}
use Rattle.mapped_chunks.specs.declared.plain.DialState.{DialState}
use Rattle.arena_rules.specs.PlainArena.{Plain}
use Rattle.arena_choice.specs.Books.{BookValue, arena_of}
use Rattle.own_blocks.specs.declared.own.Own.{Own}
use Rattle.stats_text.specs.declared.views.TileView.{TileView}
use Rattle.stats_text.specs.declared.views.DialsView.{DialsView}
use Rattle.stats_text.specs.Views.{Arena, CacheList, Shown}
use Rattle.world_view.specs.Places.{Placed, finds_of, fast_lists, fast_of, bins_of, binned, finds_found, FoundAt, found_by_address, shown_tiles, by_address, mapped_finds}

-- an arena, and the chunks in its fast bins
pub record ArenaScene : Type 0 where
  pub arena : Plain
  pub fast : FastState

-- What the threads have, by number; the arenas, by number; the blocks in full trays, by the tray's number; the book of arenas;
-- the words beside the arenas; and the numbers of the threads that have lines in the trace.
pub record Scene : Type 0 where
  pub owns : List Own
  pub arenas : List ArenaScene
  pub trays : List (ℕ × Block)
  pub book : BookValue
  pub dials : DialState
  pub lines : List ℕ

-- these arenas are such, with these lists of fast chunks, ten an arena and one arena after another
pub record AreArenas (scenes : List ArenaScene) (arenas : List Plain) (lists : List (List ℕ)) : Type 0 where
  pub arenas_are : map (λ s. s.arena) scenes ≡ arenas
  pub lists_are : flat_map (λ s. fast_lists s.fast) scenes ≡ lists
  pub ten : AllByRecursion (λ s. length s.fast.bins ≡ fast_bin_count) scenes

-- ---- what is found

-- the chunks in the bins of arenas
abbrev pub all_binned : List ArenaScene → List Placed
all_binned arenas = flat_map (λ s. binned (fast_of s.fast) (bins_of s.arena)) arenas

-- all that is found: the blocks of threads and trays, and the chunks in bins
unfoldable pub all_found : Scene → FoundAt
all_found s = found_by_address (finds_found (finds_of s.owns s.trays) ++ all_binned s.arenas)

-- ---- the parts of a report

-- how many arenas stand before one in the list of arenas
abbrev pub place_in_list : ℕ → List ℕ → ℕ
place_in_list number [] = 0
place_in_list number (other ∷ others) = if other == number then 0 else place_in_list number others + 1

-- an arena with its fast bins, by what is found, and by the list of arenas
unfoldable pub arena_shown : FoundAt → List ℕ → List (ℕ × List ℕ) → Plain → Arena
arena_shown found list fast a = record {
  number = a.number;
  system = a.system;
  max = a.most;
  list = place_in_list a.number list;
  last = a.last;
  tiles = shown_tiles found a.tiles;
  fast = fast;
  bins = bins_of a;
}

abbrev pub shown_arena : Scene → ArenaScene → Arena
shown_arena s a = arena_shown (all_found s) s.book.list (fast_of a.fast) a.arena

-- the mapped chunks of threads and trays
abbrev pub mapped_of : Scene → List TileView
mapped_of s = by_address (mapped_finds (finds_of s.owns s.trays))

-- the lists of a thread's cache, from an index on
abbrev pub cache_lists : ℕ → ℕ → List (List ℕ) → List CacheList
cache_lists thread index [] = []
cache_lists thread index (addrs ∷ lists) =
    record { thread = thread; bin = index; addrs = addrs } ∷ cache_lists thread (index + 1) lists

-- those of threads, the first thread having this number
abbrev pub caches_from : ℕ → List Own → List CacheList
caches_from thread [] = []
caches_from thread (own ∷ owns) = cache_lists thread 0 (addresses_of own.cache) ++ caches_from (thread + 1) owns

-- the words beside the arenas
abbrev pub dials_of : DialState → DialsView
dials_of d = record {
  mmap_threshold = d.mmap_threshold;
  trim_threshold = d.trim_threshold;
  mapped = d.mapped;
  bytes = d.bytes;
  max_mapped = d.max_mapped;
  max_bytes = d.max_bytes;
}

-- all that the report shows
unfoldable pub shown_of : Scene → Shown
shown_of s = record {
  arenas = map (shown_arena s) s.arenas;
  mapped = mapped_of s;
  caches = caches_from 0 s.owns;
  threads = map (λ thread. (thread, arena_of s.book thread)) s.lines;
  free = s.book.free;
  next = s.book.next;
  limit = s.book.limit;
  dials = dials_of s.dials;
}
