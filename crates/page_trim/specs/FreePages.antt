-- The whole pages inside free chunks: glibc 2.31 malloc/malloc.c, mtrim.
use Rattle.std.specs.Prelude.{◌≡◌, ℕ, ◌+◌, ◌-◌, ◌*◌, ◌/◌, ◌≤◌, ◌&&◌, ◌⊎◌, Bool, true, Option, Some, None, nat_lt, List, [], ◌∷◌, sum_by, slice_get, if◌then◌else◌}
use Rattle.std.specs.List.{AllByRecursion, flat_map}
use Rattle.chunk_tags.specs.Pages.{page_up_of, page_down_of}
use Rattle.chunk_tags.specs.Tiles.{is_free, end_of}
use Rattle.chunk_tags.specs.declared.tiles.Tile.{Tile}
use Rattle.page_trim.specs.declared.ranges.PageRange.{PageRange}

-- the bytes in front of a free chunk that the allocator needs: its head and the links of its bins (malloc_chunk)
abbrev pub words_of_free : ℕ
words_of_free = 48

-- where the whole pages behind these words begin, and where those before the chunk's end do
abbrev pub pages_start : Tile → ℕ
pages_start t = page_up_of (t.addr + words_of_free)

abbrev pub pages_end : Tile → ℕ
pages_end t = page_down_of (end_of t)

abbrev pub has_pages : Tile → Bool
has_pages t = is_free t && nat_lt (pages_start t) (pages_end t)

abbrev pub range_of : Tile → PageRange
range_of t = record { addr = pages_start t; pages = (pages_end t - pages_start t) / 4096 }

-- the pages of one tile, which are one range where there is one
abbrev pub pages_of : Tile → List PageRange
pages_of t = if has_pages t then range_of t ∷ [] else []

-- a range, where there is one
abbrev pub listed_range : Option PageRange → List PageRange
listed_range None = []
listed_range (Some r) = r ∷ []

-- those of all free tiles, by address
unfoldable pub free_pages : List Tile → List PageRange
free_pages ts = flat_map pages_of ts

-- how many pages ranges have
unfoldable pub pages_in : List PageRange → ℕ
pages_in ranges = sum_by (λ r. r.pages) ranges

-- the address behind a range
abbrev pub range_end : PageRange → ℕ
range_end r = r.addr + r.pages * 4096

-- the address behind the bytes of a tile that must stay: of a free one the words in front, of any other all
abbrev pub kept_end : Tile → ℕ
kept_end t = if is_free t then t.addr + words_of_free else end_of t

-- a range has none of the bytes of a tile that must stay
abbrev pub Spares : PageRange → Tile → Type 0
Spares r t = (range_end r ≤ t.addr) ⊎ (kept_end t ≤ r.addr)

-- it has none of those of any tile, and lies inside a free one, behind its words
pub record IsIdle (ts : List Tile) (r : PageRange) : Type 0 where
  pub spares : AllByRecursion (Spares r) ts
  pub place : ℕ
  pub within : Tile
  pub there : slice_get ts place ≡ Some within
  pub free : is_free within ≡ true
  pub start : within.addr + words_of_free ≤ r.addr
  pub end : range_end r ≤ end_of within
