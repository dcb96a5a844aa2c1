-- Free chunks in the lists of bins, and the order of a list: glibc 2.31 malloc/malloc.c, _int_malloc where it sorts
-- the unsorted chunks and where it searches a large bin.
use Rattle.std.specs.Prelude.{ℕ, ◌≤◌, Bool, ◌&&◌, not, min, nat_eq, nat_lt, nat_le, List, [], ◌∷◌, Option, Some, None, if◌then◌else◌, count_by, filter}
use Rattle.chunk_tags.specs.Sizes.{fast_size_at}
use Rattle.chunk_tags.specs.declared.tiles.Chunk.{Chunk}

abbrev pub same_chunk : Chunk → Chunk → Bool
same_chunk c d = nat_eq c.at d.at && nat_eq c.size d.size

-- 1 where two chunks are the same, else 0
abbrev pub once : Chunk → Chunk → ℕ
once e c = if same_chunk e c then 1 else 0

-- the chunk at an address that is in the fast bin of an index
abbrev pub fast_chunk : ℕ → ℕ → Chunk
fast_chunk bin at = record { at = at; size = fast_size_at bin }

-- how often a chunk stands in a list
abbrev pub times_in : Chunk → List Chunk → ℕ
times_in c cs = count_by (same_chunk c) cs

-- a list without a chunk
abbrev pub without : Chunk → List Chunk → List Chunk
without c cs = filter (λ d. not (same_chunk c d)) cs

-- the last chunk of a list, which has been there longest where chunks are put in front
abbrev pub oldest_of : List Chunk → Option Chunk
oldest_of [] = None
oldest_of (c ∷ []) = Some c
oldest_of (c ∷ d ∷ ds) = oldest_of (d ∷ ds)

-- Large bins.

-- sizes fall from the front to the back
abbrev pub IsFalling : List Chunk → Type 0
IsFalling [] = Unit {0}
IsFalling (x ∷ []) = Unit {0}
IsFalling (x ∷ y ∷ ys) = (y.size ≤ x.size) × IsFalling (y ∷ ys)

-- a chunk behind all greater ones; where its size is there already, it becomes the second of its equals
abbrev pub inserted : Chunk → List Chunk → List Chunk
inserted c [] = c ∷ []
inserted c (x ∷ xs) =
    if nat_lt x.size c.size then c ∷ x ∷ xs
    else (if nat_eq x.size c.size then x ∷ c ∷ xs else x ∷ inserted c xs)

-- the smallest of the sizes that fit a request
abbrev pub lesser : ℕ → Option ℕ → ℕ
lesser s None = s
lesser s (Some t) = min s t

abbrev pub smallest_fit : ℕ → List Chunk → Option ℕ
smallest_fit nb [] = None
smallest_fit nb (x ∷ xs) =
    if nat_le nb x.size then Some (lesser x.size (smallest_fit nb xs)) else smallest_fit nb xs

-- the chunks of a size
abbrev pub of_size : ℕ → List Chunk → List Chunk
of_size s xs = filter (λ x. nat_eq x.size s) xs

-- the second of a list, or the only one
abbrev pub second_of : {X : Type 0} → List X → Option X
second_of [] = None
second_of (x ∷ []) = Some x
second_of (x ∷ y ∷ ys) = Some y

abbrev pub second_of_size : Option ℕ → List Chunk → Option Chunk
second_of_size None xs = None
second_of_size (Some s) xs = second_of (of_size s xs)

-- the smallest chunk that fits; of several equals the second
abbrev pub best_of : ℕ → List Chunk → Option Chunk
best_of nb xs = second_of_size (smallest_fit nb xs) xs
