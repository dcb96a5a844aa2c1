-- What a step of the search promises (this project's own).
use Rattle.std.specs.Prelude.{ℕ, ◌+◌, ◌≤◌, Bool, ◌&&◌, nat_eq, length, Result, Option, Some, None, drop, if◌then◌else◌}
use Rattle.chunk_tags.specs.BinOrder.{best_of, once}
use Rattle.chunk_tags.specs.Sizes.{IsChunkSize, is_small_size, large_index_of, bin_of, cache_index_of, fast_index_of}
use Rattle.chunk_tags.specs.declared.refusals.NoMemory.{NoMemory}
use Rattle.chunk_tags.specs.declared.tiles.Chunk.{Chunk}
use Rattle.chunk_tags.specs.declared.tunables.Tunables.{Tunables}
use Rattle.arena_rules.specs.PlainArena.{Plain, bin_at, unsorted_of}
use Rattle.arena_rules.specs.Rules.{Rules}
use Rattle.arena_rules.specs.Growth.{cut_or}
use Rattle.arena_rules.specs.Search as search
use Rattle.arena_rules.specs.Search.{taken_from, first_oldest, stashing_fast, stashing_small, most_stashed, is_large_remainder}
use Rattle.fast_bins.specs.FastPorts.{Fast}
use Rattle.thread_cache.specs.Caches.{CacheValue, without_newest}
use Rattle.consolidate_trim.specs.Holds.{Chunks, no_chunk}
use Rattle.arena_growth.specs.declared.step.Step.{Step}
use Rattle.arena_growth.specs.declared.step.Step.TheVariants.{Taken, Onward}
use Rattle.arena_growth.specs.Ledgers.{Ledger, Stage, Works, shelf, Near, near_ledger, fast_ledger}

-- a step that ended with this arena
abbrev pub step_of : Step → Plain → search.Step
step_of (Taken c) a = search.Taken c a
step_of Onward a = search.Onward a

-- the chunk that a step took
abbrev pub chunks_taken : Step → Chunks
chunks_taken (Taken c) e = once e c
chunks_taken Onward e = 0

-- a size of chunks that is enough for a need
pub record IsEnough (need size : ℕ) : Type 0 where
  pub chunk : IsChunkSize size
  pub room : need ≤ size

-- the chunk that a step took is enough
abbrev pub FitsStep : ℕ → Step → Type 0
FitsStep nb (Taken c) = IsEnough nb c.size
FitsStep nb Onward = Unit {0}

-- a step of the search, whatever the tunables
pub record Steps {O : Type 0} (l : Ledger O) (rules : Rules search.Step) (before : Stage O) (result : Result Step NoMemory) (after : Stage O) : Type 0 where
  pub works : (t : Tunables) → Works l t rules no_chunk before (λ s. step_of s after.arena) chunks_taken result after

-- the best chunk of a large size's own bin, else the last one of the first bin above
abbrev pub chosen : ℕ → Plain → Option Chunk
chosen nb a =
    let larger = first_oldest (drop (bin_of nb + 1) a.bins) in
    if is_small_size nb then larger
    else (elim (best_of nb (bin_at a (large_index_of nb))) [ None ↦ larger | Some c ↦ Some c ])

-- what is taken from top
abbrev pub topped : ℕ → Plain → search.Step
topped = cut_or search.Taken search.Onward

-- what is taken from the bins, else from top
abbrev pub taken_behind_scan : ℕ → Plain → search.Step
taken_behind_scan nb a = elim (chosen nb a) [ None ↦ topped nb a | Some c ↦ taken_from nb a (Some c) ]

-- Further chunks of a small bin were put into the cache, whatever the first one was.
pub record StashesSmall (nb : ℕ) (before : Stage CacheValue) (result : Result (Unit {0}) NoMemory) (after : Stage CacheValue) : Type 0 where
  pub works : (t : Tunables) (first : Chunk) →
      Works shelf t (stashing_small most_stashed nb first before.arena) no_chunk before (λ _. search.Taken first after.arena) (λ _. no_chunk) result after

-- the chunk is the last remainder, large enough for a small size, and alone in unsorted
abbrev pub is_remainder : ℕ → Plain → Chunk → Bool
is_remainder nb a c = is_small_size nb && nat_eq (length (unsorted_of a)) 1 && is_large_remainder nb a c

-- where chunks were put into the cache in a scan, the last of them is drawn out of it again, and is taken
abbrev pub drawn : Option Chunk → Step
drawn None = Onward
drawn (Some c) = Taken c

abbrev pub cache_drawn : Option Chunk → ℕ → CacheValue → CacheValue
cache_drawn None nb cache = cache
cache_drawn (Some c) nb cache = without_newest cache (cache_index_of nb)

-- Further chunks of a fast bin were put into the cache, whatever the first one was.
pub record StashesFast {P : Type 0} (fast : Fast P) (nb : ℕ) (before : Stage (Near P)) (result : Result (Unit {0}) NoMemory) (after : Stage (Near P)) : Type 0 where
  pub works : (t : Tunables) (first : Chunk) →
      Works (near_ledger fast) t (stashing_fast most_stashed (fast_index_of nb) nb first before.arena) no_chunk before (λ _. search.Taken first after.arena) (λ _. no_chunk) result after

-- A step that only consolidates: it goes on with the arena, whatever the tunables.
pub record Sweeps {P : Type 0} (fast : Fast P) (rules : Rules search.Step) (before : Stage P) (result : Result (Unit {0}) NoMemory) (after : Stage P) : Type 0 where
  pub works : (t : Tunables) → Works (fast_ledger fast) t rules no_chunk before (λ _. search.Onward after.arena) (λ _. no_chunk) result after
