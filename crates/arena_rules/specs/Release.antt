-- A chunk is given up under an arena's lock: glibc 2.31 malloc/malloc.c, _int_free and malloc_consolidate.
use Rattle.std.specs.Prelude.{ℕ, ◌+◌, suc, zero, Bool, true, false, nat_lt, nat_le, length, Some, None, if◌then◌else◌}
use Rattle.chunk_tags.specs.BinOrder.{fast_chunk}
use Rattle.chunk_tags.specs.declared.tiles.Chunk.{Chunk}
use Rattle.chunk_tags.specs.Sizes.{fast_index_of}
use Rattle.chunk_tags.specs.Dials.{TrimThreshold}
use Rattle.chunk_tags.specs.declared.tunables.Tunables.{Tunables}
use Rattle.arena_rules.specs.PlainArena.{Plain, is_own}
use Rattle.arena_rules.specs.Moves.{joined_before, joined_behind, is_before_top, absorbed, shelved, top_size}
use Rattle.arena_rules.specs.Rules.{Rules, Stop, Misfit, Does, Clears, Gathers, Pushes, Stashes, behind, asks_flag, asks_room, pops_own, reads}
use Rattle.arena_rules.specs.Trim.{trimmed}

-- an arena with a chunk merged into it: the size that the chunk then has, and whether it is part of top
pub record Merging : Type 0 where
  pub arena : Plain
  pub size : ℕ
  pub in_top : Bool

-- A used chunk is merged with the chunk before it and the one behind it, where these are free. Where it then ends at
-- top it becomes part of top; else it is free, in front of unsorted.
abbrev pub merged : Plain → Chunk → Merging
merged a c =
    let h = joined_behind (joined_before (record { chunk = c; arena = a })) in
    if is_before_top h.arena h.chunk
    then record { arena = absorbed h.arena h.chunk; size = h.chunk.size + top_size h.arena; in_top = true }
    else record { arena = shelved h.arena h.chunk; size = h.chunk.size; in_top = false }

-- The chunks of a fast bin's private list are merged, front first. An arena has no more of them than tiles.
abbrev pub merging_bin : ℕ → ℕ → Plain → Rules Plain
merging_bin zero bin a = Misfit
merging_bin (suc n) bin a = pops_own a bin (λ found. elim found [
  | None ↦ Stop a
  | Some at ↦ if is_own a (fast_chunk bin at) then merging_bin n bin (merged a (fast_chunk bin at)).arena else Misfit
])

-- so many fast bins, ascending: the whole list of each
abbrev pub merging_bins : ℕ → ℕ → Plain → Rules Plain
merging_bins zero bin a = Stop a
merging_bins (suc n) bin a =
    Does (Gathers bin) (behind (merging_bin (suc (length a.tiles)) bin a) (λ b. merging_bins n (bin + 1) b))

-- Consolidation: the flag is cleared, and the chunks of all ten fast bins are merged.
unfoldable pub consolidated : Plain → Rules Plain
consolidated a = Does Clears (merging_bins 10 0 a)

-- consolidation where the flag is set
abbrev pub consolidated_if : Bool → Plain → Rules Plain
consolidated_if flag a = if flag then consolidated a else Stop a

-- from this size on, top included, a merged chunk brings consolidation and trimming (FASTBIN_CONSOLIDATION_THRESHOLD)
abbrev pub settling_size : ℕ
settling_size = 65536

-- top is trimmed by the threshold that is read
abbrev pub trimmed_by_threshold : Tunables → Plain → Rules Plain
trimmed_by_threshold t a = reads a TrimThreshold (λ threshold. trimmed t a threshold)

-- what follows a merge: nothing for a small one
abbrev pub settled : Tunables → Merging → Rules Plain
settled t m =
    if nat_lt m.size settling_size then Stop m.arena
    else asks_flag m.arena (λ flag. behind (consolidated_if flag m.arena) (λ a. trimmed_by_threshold t a))

-- A chunk is given to its arena: it is merged, and what follows.
abbrev pub given : Tunables → Plain → Chunk → Rules Plain
given t a c = settled t (merged a c)

-- A chunk that a hold gives up goes to the caller's cache where that has room, else into its fast bin where it is fast,
-- else to its arena.
abbrev pub released : Tunables → Plain → Chunk → Rules Plain
released t a c = asks_room a c.size (λ room.
    if room then Does (Stashes c) (Stop a)
    else (if nat_le c.size t.max_fast then Does (Pushes (fast_index_of c.size) c.at) (Stop a) else given t a c))
