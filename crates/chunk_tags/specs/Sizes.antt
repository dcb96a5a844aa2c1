-- What a request becomes, and the indexes of a size: glibc 2.31 malloc/malloc.c, request2size, csize2tidx,
-- in_smallbin_range, smallbin_index, largebin_index_64 and fastbin_index.
use Rattle.std.specs.Prelude.{◌≡◌, ℕ, ◌+◌, ◌-◌, ◌*◌, ◌/◌, ◌%◌, ◌^◌, ◌≤◌, Bool, nat_lt, nat_le, Option, Some, None, if◌then◌else◌}

-- sizes of chunks: multiples of 16 from 32 on
abbrev pub IsChunkSize : ℕ → Type 0
IsChunkSize s = (32 ≤ s) × (s % 16 ≡ 0)

-- the chunk size of a request: 23 bytes more, rounded down to a multiple of 16, and at least 32
abbrev pub chunk_size_of : ℕ → ℕ
chunk_size_of r = if nat_lt (r + 23) 32 then 32 else (r + 23) / 16 * 16

-- the same, where the request isn't above PTRDIFF_MAX
abbrev pub padded_request : ℕ → Option ℕ
padded_request r = if nat_lt (2 ^ 63 - 1) r then None else Some (chunk_size_of r)

-- the largest size of a cached chunk, which a request of 1,032 bytes becomes (MAX_TCACHE_SIZE)
abbrev pub max_cached : ℕ
max_cached = chunk_size_of 1032

-- what a chunk may be asked for: the size of the largest request at most
pub record IsRequestSize (nb : ℕ) : Type 0 where
  pub chunk : IsChunkSize nb
  pub largest : nb ≤ 2 ^ 63 + 16

-- the list of a cache that has chunks of this size: one list for 16 bytes of size
abbrev pub cache_index_of : ℕ → ℕ
cache_index_of s = (s - 32 + 15) / 16

-- the size of the chunks in the list at an index (tidx2usize, with the size word)
abbrev pub cached_size_at : ℕ → ℕ
cached_size_at index = 32 + 16 * index

-- the bytes of a cache's structure: 64 counts of 2 bytes and 64 heads of 8 (tcache_perthread_struct)
abbrev pub structure_bytes : ℕ
structure_bytes = 640

-- the size of the chunk for it
abbrev pub structure_size : ℕ
structure_size = chunk_size_of structure_bytes

-- small bins are for sizes below 1,024, one bin a size
abbrev pub is_small_size : ℕ → Bool
is_small_size s = nat_lt s 1024

abbrev pub small_index_of : ℕ → ℕ
small_index_of s = s / 16

-- large bins are 64 bytes apart at first, and ever wider
abbrev pub large_index_of : ℕ → ℕ
large_index_of s =
    if nat_le (s / 64) 48 then 48 + s / 64
    else (if nat_le (s / 512) 20 then 91 + s / 512
    else (if nat_le (s / 4096) 10 then 110 + s / 4096
    else (if nat_le (s / 32768) 4 then 119 + s / 32768
    else (if nat_le (s / 262144) 2 then 124 + s / 262144
    else 126))))

-- the bin of a free chunk: small bins have the indexes 2 to 63, large ones 64 to 126
abbrev pub bin_of : ℕ → ℕ
bin_of s = if is_small_size s then small_index_of s else large_index_of s

-- the fast bin of a size
abbrev pub fast_index_of : ℕ → ℕ
fast_index_of s = s / 16 - 2

-- the size of the chunks in the fast bin at an index
abbrev pub fast_size_at : ℕ → ℕ
fast_size_at bin = 32 + 16 * bin
