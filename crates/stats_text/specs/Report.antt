-- The places of all chunks, the threads, the book of arenas and the dials, a form of line each (this project's own).
use Rattle.std.specs.Prelude.{ℕ, Option, Some, None, List, [], ◌∷◌, ◌++◌, ◌==◌, length, codes, decimal, if◌then◌else◌}
use Rattle.std.specs.List.{flat_map}
use Rattle.stats_text.specs.declared.views.Place.{Place}
use Rattle.stats_text.specs.declared.views.Place.TheVariants.{Live, Cache, Structure, Tray, Fast, Bin, Top, Fence}
use Rattle.stats_text.specs.declared.views.TileView.{TileView}
use Rattle.stats_text.specs.declared.views.DialsView.{DialsView}
use Rattle.stats_text.specs.Views.{Arena, CacheList, Shown}
use Rattle.stats_text.specs.Words.{address, addresses, block_text}

-- a number, or a dash where there is none
unfoldable pub number_or_dash : Option ℕ → List ℕ
number_or_dash None = codes "-"
number_or_dash (Some n) = decimal n

-- a chunk's user address, or a dash where there is none
unfoldable pub address_or_dash : Option ℕ → List ℕ
address_or_dash None = codes "-"
address_or_dash (Some at) = address at

-- where a chunk is
unfoldable pub place_text : Place → List ℕ
place_text (Live thread name) = codes "live " ++ decimal thread ++ codes " " ++ decimal name
place_text (Cache thread) = codes "cache " ++ decimal thread
place_text (Structure thread) = codes "structure " ++ decimal thread
place_text (Tray tray) = codes "tray " ++ decimal tray
place_text (Fast bin) = codes "fast " ++ decimal bin
place_text (Bin bin) = codes "bin " ++ decimal bin
place_text Top = codes "top"
place_text Fence = codes "fence"

-- a chunk of an arena: its block and its place
unfoldable pub tile_line : TileView → List ℕ
tile_line t = block_text t.addr t.size ++ codes " " ++ place_text t.place ++ codes "\n"

-- the chunks of an arena
unfoldable pub tile_lines : List TileView → List ℕ
tile_lines tiles = flat_map tile_line tiles

-- a mapped chunk: its block, its lead and its place
unfoldable pub mapped_line : TileView → List ℕ
mapped_line t = block_text t.addr t.size ++ codes " lead " ++ decimal t.lead
    ++ codes " " ++ place_text t.place ++ codes "\n"

-- the mapped chunks
unfoldable pub mapped_lines : List TileView → List ℕ
mapped_lines tiles = flat_map mapped_line tiles

-- the chunks of a numbered list, from its front, to the end of the line
unfoldable pub numbered_list : ℕ → List ℕ → List ℕ
numbered_list number ats = decimal number ++ codes ":" ++ addresses ats ++ codes "\n"

-- a bin under its name; an empty one has no line
unfoldable pub bin_line : List ℕ → ℕ × List ℕ → List ℕ
bin_line name bin = if length bin.1 == 0 then [] else name ++ numbered_list bin.0 bin.1

-- the bins of one name
unfoldable pub bin_lines : List ℕ → List (ℕ × List ℕ) → List ℕ
bin_lines name bins = flat_map (bin_line name) bins

-- the number of an arena, its bytes from the system, and the most that these were
unfoldable pub arena_extent : Arena → List ℕ
arena_extent a = codes "arena " ++ decimal a.number
    ++ codes " system " ++ decimal a.system
    ++ codes " max " ++ decimal a.max

-- an arena's own line
unfoldable pub arena_line : Arena → List ℕ
arena_line a = arena_extent a
    ++ codes " list " ++ decimal a.list
    ++ codes " last " ++ address_or_dash a.last ++ codes "\n"

-- an arena: its line, its chunks, its fast bins and its other bins
unfoldable pub arena_section : Arena → List ℕ
arena_section a = arena_line a ++ tile_lines a.tiles
    ++ bin_lines (codes "fast ") a.fast
    ++ bin_lines (codes "bin ") a.bins

-- the arenas
unfoldable pub arena_sections : List Arena → List ℕ
arena_sections arenas = flat_map arena_section arenas

-- a list of a thread's cache, newest first; an empty one has no line
unfoldable pub cache_line : CacheList → List ℕ
cache_line c = if length c.addrs == 0 then []
    else codes "cache " ++ decimal c.thread ++ codes " " ++ numbered_list c.bin c.addrs

-- the lists of all caches
unfoldable pub cache_lines : List CacheList → List ℕ
cache_lines caches = flat_map cache_line caches

-- the arena of a thread, or a dash where it has none
unfoldable pub thread_line : ℕ × Option ℕ → List ℕ
thread_line t = codes "thread " ++ decimal t.0 ++ codes " arena " ++ number_or_dash t.1 ++ codes "\n"

-- the threads
unfoldable pub thread_lines : List (ℕ × Option ℕ) → List ℕ
thread_lines threads = flat_map thread_line threads

-- numbers, each behind a comma
unfoldable pub comma_numbers : List ℕ → List ℕ
comma_numbers ns = flat_map (λ n. codes "," ++ decimal n) ns

-- numbers with commas between, or a dash where there are none
unfoldable pub numbers_or_dash : List ℕ → List ℕ
numbers_or_dash [] = codes "-"
numbers_or_dash (n ∷ ns) = decimal n ++ comma_numbers ns

-- the free list, the arena that is reused next, and the limit on arenas
unfoldable pub book_line : List ℕ → Option ℕ → ℕ → List ℕ
book_line free next limit = codes "book free " ++ numbers_or_dash free
    ++ codes " next " ++ number_or_dash next
    ++ codes " limit " ++ decimal limit ++ codes "\n"

-- the thresholds, and the mapped chunks with their bytes
unfoldable pub dials_line : DialsView → List ℕ
dials_line d = codes "dials threshold " ++ decimal d.mmap_threshold
    ++ codes " trim " ++ decimal d.trim_threshold
    ++ codes " mapped " ++ decimal d.mapped
    ++ codes " bytes " ++ decimal d.bytes ++ codes "\n"

-- the threads, the book of arenas and the dials
unfoldable pub state_lines : Shown → List ℕ
state_lines s = thread_lines s.threads ++ book_line s.free s.next s.limit ++ dials_line s.dials

-- all that stands between the records and the statistics: the arenas, the mapped chunks, the caches, the threads,
-- the book of arenas and the dials
unfoldable pub places_of : Shown → List ℕ
places_of s = arena_sections s.arenas
    ++ codes "mapped\n" ++ mapped_lines s.mapped
    ++ cache_lines s.caches
    ++ state_lines s
