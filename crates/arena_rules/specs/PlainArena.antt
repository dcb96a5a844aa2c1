-- What one arena consists of, in plain lists: glibc 2.31 malloc/malloc.c, malloc_state, seen without words and links.
use Rattle.std.specs.Prelude.{◌≡◌, ℕ, ◌≤◌, Bool, true, ◌&&◌, nat_eq, nat_lt, List, [], ◌∷◌, map, length, replicate, Option, Some, None, if◌then◌else◌, count_by, sum_by, slice_index_or, slice_set}
use Rattle.std.specs.List.{AllByRecursion}
use Rattle.chunk_tags.specs.Sizes.{bin_of}
use Rattle.chunk_tags.specs.BinOrder.{IsFalling, once, times_in, without}
use Rattle.chunk_tags.specs.declared.tiles.Chunk.{Chunk}
use Rattle.chunk_tags.specs.Tiles.{is_used, is_free, is_top, Row}
use Rattle.chunk_tags.specs.declared.tiles.Tile.{Tile}
use Rattle.address_space.specs.Spaces.{main_start, piece_start}

-- The windows of an arena's heaps: how long each is, in bytes, and how many there may be. Main has none.
pub record HeapWindows : Type 0 where
  pub heap_max : ℕ
  pub heaps : ℕ

abbrev pub no_windows : HeapWindows
no_windows = record { heap_max = 0; heaps = 0 }

-- One arena. Its number (main is 0), the windows of its heaps, its tiles by address, and its bins by index: 1 is unsorted, 2 to 63 are small, 64
-- to 126 large, each with its front first. Then the address of the last remainder; whether main is contiguous, the
-- break, and the next place for a piece, which other arenas leave as they are; and the bytes from the system, with the
-- most that there were.
pub record Plain : Type 0 where
  pub number : ℕ
  pub windows : HeapWindows
  pub tiles : List Tile
  pub bins : List (List Chunk)
  pub last : Option ℕ
  pub contiguous : Bool
  pub break_at : ℕ
  pub next_piece : ℕ
  pub system : ℕ
  pub most : ℕ

-- as many empty lists as there are bins (NBINS less one; the first isn't used)
unfoldable pub empty_bins : List (List Chunk)
empty_bins = replicate 127 []

-- the main arena before its first growth
abbrev pub empty_main : Plain
empty_main = record {
  number = 0;
  windows = no_windows;
  tiles = [];
  bins = empty_bins;
  last = None;
  contiguous = true;
  break_at = main_start;
  next_piece = piece_start;
  system = 0;
  most = 0;
}

abbrev pub is_main : Plain → Bool
is_main a = nat_eq a.number 0

-- the list of a bin
abbrev pub bin_at : Plain → ℕ → List Chunk
bin_at a i = slice_index_or a.bins i []

abbrev pub unsorted_of : Plain → List Chunk
unsorted_of a = bin_at a 1

-- the arena with another list in a bin
abbrev pub with_bin : Plain → ℕ → List Chunk → Plain
with_bin a i cs = record a { bins = slice_set a.bins i cs }

-- the arena with a chunk in front of a bin
abbrev pub with_front : Plain → ℕ → Chunk → Plain
with_front a i c = with_bin a i (c ∷ bin_at a i)

-- the arena with a chunk in no bin
abbrev pub unlinked : Plain → Chunk → Plain
unlinked a c = record a { bins = map (without c) a.bins }

-- how often a chunk stands in the bins
abbrev pub times_listed : Chunk → Plain → ℕ
times_listed c a = sum_by (times_in c) a.bins

-- whether a tile is this chunk
abbrev pub is_chunk : Chunk → Tile → Bool
is_chunk c t = nat_eq c.at t.addr && nat_eq c.size t.size

-- how many tiles of a kind are this chunk
abbrev pub times_tiled : (Tile → Bool) → Chunk → Plain → ℕ
times_tiled kind c a = count_by (λ t. kind t && is_chunk c t) a.tiles

-- what a bin may hold: any chunk in unsorted, and else those of its index
abbrev pub BelongsIn : ℕ → Chunk → Type 0
BelongsIn i c = (i ≡ 1 → ⊥) → bin_of c.size ≡ i

pub record IsBin (i : ℕ) (cs : List Chunk) : Type 0 where
  pub belong : AllByRecursion (BelongsIn i) cs
  pub falls : 64 ≤ i → IsFalling cs

-- each free chunk stands in the bins exactly once, and nothing else does; each list has its own chunks
pub record IsListed (a : Plain) : Type 0 where
  pub once : (c : Chunk) → times_listed c a ≡ times_tiled is_free c a
  pub width : length a.bins ≡ 127
  pub bins : (i : ℕ) → IsBin i (bin_at a i)

-- A sound arena: its tiles are a row, with one top where there is a tile, and the bins list the free ones.
pub record IsSound (a : Plain) : Type 0 where
  pub row : Row a.tiles
  pub one_top : count_by is_top a.tiles ≡ (if nat_lt 0 (length a.tiles) then 1 else 0)
  pub listed : IsListed a

-- how many used tiles are this chunk
abbrev pub times_used : Chunk → Plain → ℕ
times_used c a = times_tiled is_used c a

-- a chunk of the arena that is used
abbrev pub is_own : Plain → Chunk → Bool
is_own a c = nat_lt 0 (times_used c a)

-- the same for a chunk that may be none
abbrev pub once_of : Chunk → Option Chunk → ℕ
once_of e o = elim o [ None ↦ 0 | Some c ↦ once e c ]

-- all of an arena but its tiles and its bins
abbrev pub beside : Plain → Plain
beside a = record a { tiles = []; bins = [] }

-- the bytes of all tiles
abbrev pub tiled_bytes : Plain → ℕ
tiled_bytes a = sum_by (λ t. t.size) a.tiles
