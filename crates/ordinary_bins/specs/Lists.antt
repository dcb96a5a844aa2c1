-- The lists of the bins: glibc 2.31 malloc/malloc.c, the bins of malloc_state as unlink_chunk and the insertions of
-- _int_malloc and _int_free leave them, seen as lists of chunk addresses, front first.
use Rattle.std.specs.Prelude.{ℕ, ◌/◌, Bool, not, nat_eq, List, [], ◌∷◌, Option, Some, None, if◌then◌else◌, count_by, sum_by, filter, drop, length, replicate, slice_index_or, slice_set}
use Rattle.std.specs.List.{position_from}
use Rattle.part_words.specs.Extents.{Extent}

-- The lists by the indexes of their bins: 1 is unsorted, 2 to 63 are small, 64 to 126 large; 0 stays empty. And the
-- addresses that have link words.
pub record Linked : Type 0 where
  pub lists : List (List ℕ)
  pub extent : Extent

-- how many bins there are (NBINS less the one that is never used)
abbrev pub bin_count : ℕ
bin_count = 127

-- no chunk in any bin
unfoldable pub empty_lists : List (List ℕ)
empty_lists = replicate bin_count []

-- the list of a bin
abbrev pub list_at : ℕ → List (List ℕ) → List ℕ
list_at bin lists = slice_index_or lists bin []

-- how often an address stands in a list, and in all lists together
abbrev pub times_in : ℕ → List ℕ → ℕ
times_in at xs = count_by (nat_eq at) xs

abbrev pub times_listed : ℕ → List (List ℕ) → ℕ
times_listed at lists = sum_by (times_in at) lists

-- the ends of a list
abbrev pub first_of : {X : Type 0} → List X → Option X
first_of [] = None
first_of (x ∷ xs) = Some x

abbrev pub last_of : {X : Type 0} → List X → Option X
last_of [] = None
last_of (x ∷ []) = Some x
last_of (x ∷ y ∷ ys) = last_of (y ∷ ys)

-- whether a list has a chunk
abbrev pub has_chunk : List ℕ → Bool
has_chunk xs = not (nat_eq (length xs) 0)

-- the first bin from an index on that isn't empty
abbrev pub first_filled : ℕ → List (List ℕ) → Option ℕ
first_filled bin lists = position_from has_chunk bin (drop bin lists)

-- a chunk in front of a bin
abbrev pub put_front : ℕ → ℕ → List (List ℕ) → List (List ℕ)
put_front bin at lists = slice_set lists bin (at ∷ list_at bin lists)

-- a chunk behind another one of a list
abbrev pub put_behind : ℕ → ℕ → List ℕ → List ℕ
put_behind after at [] = []
put_behind after at (x ∷ xs) = x ∷ (if nat_eq after x then at ∷ put_behind after at xs else put_behind after at xs)

-- a list without a chunk
abbrev pub without : ℕ → List ℕ → List ℕ
without at xs = filter (λ x. not (nat_eq at x)) xs

-- where there are no link words yet: parts begin at `base`, and every `stride` bytes after it
abbrev pub no_extent : ℕ → ℕ → Extent
no_extent base stride = record { base = base; width = stride / 16; words = [] }
