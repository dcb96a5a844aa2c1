-- The first chunk of each size of a large bin: glibc 2.31 malloc/malloc.c, the chunks that fd_nextsize and bk_nextsize
-- of malloc_chunk link.
use Rattle.std.specs.Prelude.{◌≡◌, ℕ, ◌≤◌, nat_eq, nat_lt, List, [], ◌∷◌, if◌then◌else◌, slice_index_or}
use Rattle.chunk_tags.specs.BinOrder.{IsFalling}
use Rattle.chunk_tags.specs.declared.tiles.Chunk.{Chunk}
use Rattle.ordinary_bins.specs.Lists.{list_at}

-- those of chunks that stand behind one of a size, by address
abbrev pub firsts_behind : ℕ → List Chunk → List ℕ
firsts_behind s [] = []
firsts_behind s (c ∷ cs) = if nat_eq c.size s then firsts_behind s cs else c.at ∷ firsts_behind c.size cs

-- those of a list
abbrev pub firsts_of : List Chunk → List ℕ
firsts_of [] = []
firsts_of (c ∷ cs) = c.at ∷ firsts_behind c.size cs

-- those of a bin: only large ones have any
abbrev pub firsts_in : ℕ → List Chunk → List ℕ
firsts_in bin cs = if nat_lt bin 64 then [] else firsts_of cs

-- bin for bin, the first chunks of each size
pub record AreFirsts (bins : List (List Chunk)) (firsts : List (List ℕ)) : Type 0 where
  pub each : (bin : ℕ) → list_at bin firsts ≡ firsts_in bin (slice_index_or bins bin [])

-- each large bin is in order
abbrev pub AreFalling : List (List Chunk) → Type 0
AreFalling bins = (bin : ℕ) → 64 ≤ bin → IsFalling (slice_index_or bins bin [])
