-- Where a report shows each chunk (this project's own). A place is where a chunk is found: under a name of a thread, in its
-- cache, as the structure of that, in a tray, in a fast bin or in another bin. Top and fences say so themselves.
use Rattle.std.specs.Prelude.{ℕ, ◌+◌, false, not, nat_eq, if◌then◌else◌, List, [], ◌∷◌, ◌++◌, map, filter, fold, Option, Some, None, is_some, slice_index_or}
use Rattle.std.specs.List.{flat_map, range_with_len}
use Rattle.std.specs.Ordering.{nat_cmp}
use Rattle.std.specs.BTreeMap.{insert_entry}
use Rattle.std.specs.Map.{values_of}
use Rattle.chunk_tags.specs.declared.block.Block.{Block}
use Rattle.chunk_tags.specs.declared.tiles.Tile.{Tile}
use Rattle.chunk_tags.specs.declared.tiles.TileKind.TheVariants as kinds
use Rattle.thread_cache.specs.Caches.{cached_tiles, structure_of}
use Rattle.fast_bins.specs.FastPorts.{fast_bin_count}
use Rattle.fast_bins.specs.PlainBins.{FastState, listed}
use Rattle.arena_rules.specs.PlainArena.{Plain, bin_at}
use Rattle.own_blocks.specs.declared.own.Own.{Own}
use Rattle.block_names.specs.Names.{NameTable}
use Rattle.stats_text.specs.declared.views.Place.{Place}
use Rattle.stats_text.specs.declared.views.Place.TheVariants as places
use Rattle.stats_text.specs.declared.views.TileView.{TileView}
use Rattle.world_view.specs.declared.finds.Find.{Find}

-- ---- the blocks of threads and trays

abbrev pub view_of_tile : ℕ → ℕ → ℕ → Place → TileView
view_of_tile addr size lead place = record { addr = addr; size = size; lead = lead; place = place }

-- a block at a place; one that belongs to no arena is mapped
abbrev pub block_find : Place → Block → Find
block_find place b = record { tile = view_of_tile b.addr b.size b.lead place; mapped = not (is_some b.arena) }

-- the blocks in a row, the first name being this
abbrev pub named_from : ℕ → ℕ → List (Option Block) → List Find
named_from thread name [] = []
named_from thread name (None ∷ names) = named_from thread (name + 1) names
named_from thread name (Some b ∷ names) = block_find (places.Live thread name) b ∷ named_from thread (name + 1) names

-- what is in the place of a name
abbrev pub held_find : ℕ → ℕ → Option Block → List Find
held_find thread name None = []
held_find thread name (Some b) = block_find (places.Live thread name) b ∷ []

-- the blocks whose names have places of their own
abbrev pub far_finds : ℕ → List (ℕ × Option Block) → List Find
far_finds thread [] = []
far_finds thread (e ∷ es) = held_find thread e.0 e.1 ++ far_finds thread es

-- all blocks of a thread that have names, by name
abbrev pub named_finds : ℕ → NameTable → List Find
named_finds thread names = named_from thread 0 names.near ++ far_finds thread names.far

-- a chunk that a thread has in its cache
abbrev pub cached_find : ℕ → Tile → Find
cached_find thread t = record { tile = view_of_tile t.addr t.size 0 (places.Cache thread); mapped = false }

-- the chunk of an open cache's structure, which may be mapped
abbrev pub structure_finds : ℕ → Option Block → List Find
structure_finds thread None = []
structure_finds thread (Some b) = block_find (places.Structure thread) b ∷ []

-- all blocks of a thread
unfoldable pub thread_finds : ℕ → Own → List Find
thread_finds thread own =
    named_finds thread own.names ++ map (cached_find thread) (cached_tiles own.cache)
    ++ structure_finds thread (structure_of own.cache)

-- those of threads, the first thread having this number
abbrev pub threads_finds : ℕ → List Own → List Find
threads_finds thread [] = []
threads_finds thread (own ∷ owns) = thread_finds thread own ++ threads_finds (thread + 1) owns

-- a block in a tray
abbrev pub tray_find : ℕ × Block → Find
tray_find t = block_find (places.Tray t.0) t.1

-- the blocks of all threads and of all full trays
unfoldable pub finds_of : List Own → List (ℕ × Block) → List Find
finds_of owns trays = threads_finds 0 owns ++ map tray_find trays

-- ---- the bins

-- the ten fast bins of an arena, each from its front
abbrev pub fast_lists : FastState → List (List ℕ)
fast_lists s = map listed s.bins

-- ten lists by number; what isn't there is empty
unfoldable pub ten_lists : List (List ℕ) → List (ℕ × List ℕ)
ten_lists lists = map (λ number. (number, slice_index_or lists number [])) (range_with_len 0 fast_bin_count)

abbrev pub fast_of : FastState → List (ℕ × List ℕ)
fast_of s = ten_lists (fast_lists s)

-- the other bins by number; the one with the number 0 isn't used, and empty
abbrev pub numbered_bin : Plain → ℕ → ℕ × List ℕ
numbered_bin a number = (number, map (λ c. c.at) (bin_at a number))

unfoldable pub bins_of : Plain → List (ℕ × List ℕ)
bins_of a = map (numbered_bin a) (range_with_len 0 127)

-- ---- what is found where

-- an address, and what is found there
abbrev pub Placed : Type 0
Placed = ℕ × Place

-- the chunks of numbered lists
abbrev pub placed_in : (ℕ → Place) → List (ℕ × List ℕ) → List Placed
placed_in place lists = flat_map (λ l. map (λ addr. (addr, place l.0)) l.1) lists

-- the chunks in the fast bins and the other bins of an arena
unfoldable pub binned : List (ℕ × List ℕ) → List (ℕ × List ℕ) → List Placed
binned fast bins = placed_in places.Fast fast ++ placed_in places.Bin bins

-- blocks of threads and trays
abbrev pub finds_found : List Find → List Placed
finds_found finds = map (λ f. (f.tile.addr, f.tile.place)) finds

-- what is found at each address
abbrev pub FoundAt : Type 0
FoundAt = ℕ → Option Place

-- nothing is found anywhere
abbrev pub nothing_found : FoundAt
nothing_found n = None

-- at an address the last that was put there is found
abbrev pub put_found : FoundAt → Placed → FoundAt
put_found found f n = if nat_eq f.0 n then Some f.1 else found n

unfoldable pub found_by_address : List Placed → FoundAt
found_by_address fs = fold put_found nothing_found fs

-- where a tile of an arena is
abbrev pub place_in : FoundAt → Tile → Option Place
place_in found t = elim t.kind [
  | kinds.Used ↦ found t.addr
  | kinds.Free ↦ found t.addr
  | kinds.Top ↦ Some places.Top
  | kinds.Fence ↦ Some places.Fence
]

-- it is shown where something is found there
abbrev pub shown_at : Tile → Option Place → List TileView
shown_at t None = []
shown_at t (Some place) = view_of_tile t.addr t.size 0 place ∷ []

abbrev pub shown_tile : FoundAt → Tile → List TileView
shown_tile found t = shown_at t (place_in found t)

abbrev pub shown_tiles : FoundAt → List Tile → List TileView
shown_tiles found tiles = flat_map (shown_tile found) tiles

-- ---- mapped chunks

-- chunks by address: each is put in its place among those that are there
abbrev pub put_tile : List (ℕ × TileView) → TileView → List (ℕ × TileView)
put_tile tiles tile = insert_entry nat_cmp tiles tile.addr tile

unfoldable pub by_address : List TileView → List TileView
by_address tiles = values_of (fold put_tile [] tiles)

abbrev pub mapped_finds : List Find → List TileView
mapped_finds finds = map (λ f. f.tile) (filter (λ f. f.mapped) finds)
