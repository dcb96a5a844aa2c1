-- The bytes in use and the text of malloc_stats(3): glibc 2.31 malloc/malloc.c, __malloc_stats, with numbers of 64 bits (own).
use Rattle.std.specs.Prelude.{ℕ, ◌+◌, ◌-◌, ◌^◌, ◌<◌, ◌≤◌, nat_lt, Bool, true, false, not, if◌then◌else◌, List, [], ◌∷◌, ◌++◌, filter, sum_by, All, codes, decimal}
use Rattle.std.specs.List.{flat_map}
use Rattle.stats_text.specs.declared.views.Place.{Place}
use Rattle.stats_text.specs.declared.views.Place.TheVariants.{Live, Cache, Structure, Tray, Fast, Bin, Top, Fence}
use Rattle.stats_text.specs.declared.views.TileView.{TileView}
use Rattle.stats_text.specs.declared.views.DialsView.{DialsView}
use Rattle.stats_text.specs.Views.{Arena, Shown}
use Rattle.stats_text.specs.Words.{in_ten_places}

-- top, fast and binned chunks aren't in use
abbrev pub is_idle_place : Place → Bool
is_idle_place (Live thread name) = false
is_idle_place (Cache thread) = false
is_idle_place (Structure thread) = false
is_idle_place (Tray tray) = false
is_idle_place (Fast bin) = true
is_idle_place (Bin bin) = true
is_idle_place Top = true
is_idle_place Fence = false

-- all others are: live, cached, structure and tray chunks and fences
abbrev pub is_in_use_place : Place → Bool
is_in_use_place place = not (is_idle_place place)

-- the sizes of chunks together
unfoldable pub tile_bytes_of : List TileView → ℕ
tile_bytes_of tiles = sum_by (λ t. t.size) tiles

-- the sizes of the chunks that are not in use
unfoldable pub idle_bytes_of : List TileView → ℕ
idle_bytes_of tiles = tile_bytes_of (filter (λ t. is_idle_place t.place) tiles)

-- the sizes of the chunks in use
unfoldable pub in_use_bytes_of : List TileView → ℕ
in_use_bytes_of tiles = tile_bytes_of (filter (λ t. is_in_use_place t.place) tiles)

-- the bytes of an arena that are in use: system less top, fast and binned bytes
unfoldable pub in_use_of : Arena → ℕ
in_use_of a = a.system - idle_bytes_of a.tiles

-- the bytes of all arenas from the system, without mapped chunks
unfoldable pub system_bytes_of : List Arena → ℕ
system_bytes_of arenas = sum_by (λ a. a.system) arenas

-- the bytes of all arenas in use, without mapped chunks
unfoldable pub used_bytes_of : List Arena → ℕ
used_bytes_of arenas = sum_by in_use_of arenas

-- no arena has more idle bytes than system bytes
abbrev pub AreWithinSystem : List Arena → Type 0
AreWithinSystem arenas = All (λ a. idle_bytes_of a.tiles ≤ a.system) arenas

-- what the totals need: bytes in use that are not below 0, and all bytes together below 2^64
pub record HasTotals (s : Shown) : Type 0 where
  pub idle : AreWithinSystem s.arenas
  pub fits : system_bytes_of s.arenas + s.dials.bytes < 2 ^ 64

-- an arena among others in list order: in front of the first whose place isn't lower
unfoldable pub insert_by_place : Arena → List Arena → List Arena
insert_by_place a [] = a ∷ []
insert_by_place a (b ∷ others) = if nat_lt b.list a.list then b ∷ insert_by_place a others else a ∷ b ∷ others

-- the arenas in the order of the list of arenas; those with one place keep their order
unfoldable pub in_list_order : List Arena → List Arena
in_list_order [] = []
in_list_order (a ∷ arenas) = insert_by_place a (in_list_order arenas)

-- a line with a number at its right
unfoldable pub total_line : List ℕ → ℕ → List ℕ
total_line name n = name ++ in_ten_places n ++ codes "\n"

-- the bytes from the system and those in use
unfoldable pub bytes_lines : ℕ → ℕ → List ℕ
bytes_lines system used = total_line (codes "system bytes     = ") system
    ++ total_line (codes "in use bytes     = ") used

-- an arena, under its place in the list of arenas
unfoldable pub arena_totals : Arena → List ℕ
arena_totals a = codes "Arena " ++ decimal a.list ++ codes ":\n" ++ bytes_lines a.system (in_use_of a)

-- arenas one after the other
unfoldable pub all_arena_totals : List Arena → List ℕ
all_arena_totals arenas = flat_map arena_totals arenas

-- the most chunks and bytes that were mapped
unfoldable pub mapped_maxima : DialsView → List ℕ
mapped_maxima d = total_line (codes "max mmap regions = ") d.max_mapped
    ++ total_line (codes "max mmap bytes   = ") d.max_bytes

-- the totals, and the maxima
unfoldable pub totals_lines : ℕ → ℕ → DialsView → List ℕ
totals_lines system used d = codes "Total (incl. mmap):\n" ++ bytes_lines system used ++ mapped_maxima d

-- the five last lines: all arenas and the mapped chunks together, and the maxima
unfoldable pub totals_of : Shown → List ℕ
totals_of s = totals_lines (system_bytes_of s.arenas + s.dials.bytes) (used_bytes_of s.arenas + s.dials.bytes) s.dials

-- the text of malloc_stats(3): each arena in list order, and the totals
unfoldable pub statistics_of : Shown → List ℕ
statistics_of s = all_arena_totals (in_list_order s.arenas) ++ totals_of s
