-- What the parts of a resize promise (this project's own).
use Rattle.std.specs.Prelude.{◌≡◌, ℕ, ◌+◌, ◌-◌, ◌≤◌, nat_lt, Option, Some, None, Result, IfOk, IfErr, OnErr, if◌then◌else◌}
use Rattle.chunk_tags.specs.BinOrder.{once}
use Rattle.chunk_tags.specs.declared.refusals.NoMemory.{NoMemory}
use Rattle.chunk_tags.specs.declared.tiles.Chunk.{Chunk}
use Rattle.chunk_tags.specs.declared.tunables.Tunables.{Tunables}
use Rattle.arena_rules.specs.PlainArena.{Plain, IsSound, times_used, once_of}
use Rattle.arena_rules.specs.MainPlaces.{IsPlaced}
use Rattle.arena_rules.specs.Moves.{parted, hand}
use Rattle.arena_rules.specs.Rules.{Rules, Stop, behind}
use Rattle.arena_rules.specs.Growth as growth
use Rattle.arena_rules.specs.Growth.{closing}
use Rattle.arena_rules.specs.Search.{searched}
use Rattle.arena_rules.specs.Release.{released}
use Rattle.arena_rules.specs.Resize.{front_of, back_of, is_next_to, joined_with, resize_of}
use Rattle.arena_rules.specs.Walks.{Reaches, StopsShort, Performs}
use Rattle.consolidate_trim.specs.Holds.{Chunks, one_chunk, KeepsOthers}
use Rattle.consolidate_trim.specs.Outside.{Means, Outside, ways}
use Rattle.arena_growth.specs.Ledgers.{Ledger, Stage, Balances, KeepsCached, elsewhere, full}
use Rattle.arena_growth.specs.declared.found.Found.{Found}
use Rattle.arena_growth.specs.declared.found.Found.TheVariants.{InArena, InMapping, Nowhere}
use Rattle.arena_growth.specs.Asking.{took}
use Rattle.realloc_align.specs.declared.cutting.Reshaped.{Reshaped}
use Rattle.realloc_align.specs.declared.resizing.Stranded.{Stranded}

-- A chunk that is cut: a rest of at least 32 bytes is to be released.
abbrev pub cut_of : Chunk → ℕ → Reshaped
cut_of c nb =
    if nat_lt (c.size - nb) 32 then record { found = InArena c; rest = None }
    else record { found = InArena (front_of c nb); rest = Some (back_of c nb) }

-- and its arena
abbrev pub arena_cut : Plain → Chunk → ℕ → Plain
arena_cut a c nb = if nat_lt (c.size - nb) 32 then a else parted a c nb

-- two chunks side by side as one
abbrev pub whole_of : Chunk → Chunk → Chunk
whole_of c d = record { at = c.at; size = c.size + d.size }

-- A chunk that was found becomes the block's: directly behind the old one it is joined and cut, else the old one is to be
-- released.
abbrev pub placed_of : Chunk → Chunk → ℕ → Reshaped
placed_of c d nb = if is_next_to c d then cut_of (whole_of c d) nb else record { found = InArena d; rest = Some c }

-- and its arena
abbrev pub arena_placed : Plain → Chunk → Chunk → ℕ → Plain
arena_placed a c d nb = if is_next_to c d then arena_cut (joined_with (hand c a) d).arena (whole_of c d) nb else a

-- what is left of the rules then: the rest is released
abbrev pub rest_released : Tunables → Reshaped → Plain → Rules growth.Took
rest_released t r a = behind (closing t r.rest a) (λ b. Stop (took b r.found))

-- The block's chunk behind a resize of the one that it had: where it was found; the same where nothing was.
abbrev pub chunks_kept : Chunk → Found → Chunks
chunks_kept c (InArena d) e = once e d
chunks_kept c (InMapping d) e = 0
chunks_kept c Nowhere e = once e c

-- the block's chunk, and what is to be released
abbrev pub chunks_reshaped : Chunk → Reshaped → Chunks
chunks_reshaped c r e = chunks_kept c r.found e + once_of e r.rest

-- from these rules to what is left of them, with chunks in hand before and then
pub record Comes {O A : Type 0} (l : Ledger O) (t : Tunables) (r : Rules A) (x : Stage O) (given got : Chunks) (q : Rules A) (y : Stage O) : Type 0 where
  pub reaches : Reaches t (l.ways x.arena.number) r x.outside x.said q y.said y.outside
  pub balances : Balances l x given got y

-- Where memory was short with a chunk still in hand: no used chunk beside the arena or in another hand was lost, nor this.
pub record Spares {O : Type 0} (l : Ledger O) (before : Stage O) (given got : Chunks) (after : Stage O) : Type 0 where
  pub sound : IsSound after.arena
  pub number : after.arena.number ≡ before.arena.number
  pub windows : after.arena.windows ≡ before.arena.windows
  pub placed : IsPlaced before.arena → IsPlaced after.arena
  pub cached : KeepsCached l before.arena.number before.outside after.outside
  pub others : KeepsOthers before.arena.number (l.cache before.outside) (l.cache after.outside)
  pub kept : (e : Chunk) → times_used e before.arena + (elsewhere l before.arena.number after.outside e + got e)
      ≤ times_used e after.arena + (elsewhere l before.arena.number before.outside e + given e)

-- A search found a mapping for the block.
abbrev pub FindsMapping : {P K : Type 0} → Means P K → Tunables → ℕ → Stage (Outside P K) → Chunk → Stage (Outside P K) → Type 0
FindsMapping m t nb before d after =
    Reaches t (ways m before.arena.number) (searched t nb before.arena) before.outside before.said (Stop (took after.arena (InMapping d))) after.said after.outside

-- It did, and memory was short while the block's old chunk was released.
pub record StopsInMapping {P K : Type 0} (m : Means P K) (t : Tunables) (c : Chunk) (nb : ℕ) (before : Stage (Outside P K)) (d : Chunk) (after : Stage (Outside P K)) : Type 0 where
  pub between : Stage (Outside P K)
  pub finds : FindsMapping m t nb before d between
  pub release : StopsShort t (ways m before.arena.number) (released t between.arena c) between.outside between.said after.arena after.said after.outside

-- What a resize came to was found, and memory was short in the release behind it.
pub record StopsReleasing {P K : Type 0} (m : Means P K) (t : Tunables) (c : Chunk) (nb : ℕ) (before : Stage (Outside P K)) (found : Found) (after : Stage (Outside P K)) : Type 0 where
  pub rest : Option Chunk
  pub between : Stage (Outside P K)
  pub comes : Reaches t (ways m before.arena.number) (resize_of t before.arena c nb) before.outside before.said (rest_released t (record { found = found; rest = rest }) between.arena) between.said between.outside
  pub release : StopsShort t (ways m before.arena.number) (closing t rest between.arena) between.outside between.said after.arena after.said after.outside

-- Memory was short in a search, before anything was found.
abbrev pub StopsSearching : {P K : Type 0} → Means P K → Tunables → ℕ → Stage (Outside P K) → Stage (Outside P K) → Type 0
StopsSearching m t nb before after =
    StopsShort t (ways m before.arena.number) (searched t nb before.arena) before.outside before.said after.arena after.said after.outside

-- Memory was short in a resize with this found: with nothing only in its search, else behind what its rules came to.
abbrev pub Strands : {P K : Type 0} → Means P K → Tunables → Chunk → ℕ → Stage (Outside P K) → Found → Stage (Outside P K) → Type 0
Strands m t c nb before Nowhere after = StopsSearching m t nb before after
Strands m t c nb before found after = StopsReleasing m t c nb before found after

-- A chunk is reshaped: from the rules of its resize to the release; or memory was short in the search, and it is as it was.
pub record Reshapes {P K : Type 0} (m : Means P K) (t : Tunables) (c : Chunk) (nb : ℕ) (before : Stage (Outside P K)) (result : Result Reshaped NoMemory) (after : Stage (Outside P K)) : Type 0 where
  pub comes : IfOk result (λ r. Comes (full m) t (resize_of t before.arena c nb) before (one_chunk c) (chunks_reshaped c r) (rest_released t r after.arena) after)
  pub mapped : IfOk result (λ r. (d : Chunk) → r.found ≡ InMapping d → (r.rest ≡ Some c) × FindsMapping m t nb before d after)
  pub nowhere : IfOk result (λ r. r.found ≡ Nowhere → r.rest ≡ None)
  pub short : OnErr result (StopsShort t (ways m before.arena.number) (resize_of t before.arena c nb) before.outside before.said after.arena after.said after.outside)
  pub early : OnErr result (StopsSearching m t nb before after)
  pub spares : OnErr result (Spares (full m) before (one_chunk c) (one_chunk c) after)

-- A chunk is resized: through the rules to their end, or left where memory is short, with the block where that says.
pub record Resizes {P K : Type 0} (m : Means P K) (t : Tunables) (c : Chunk) (nb : ℕ) (before : Stage (Outside P K)) (result : Result Found Stranded) (after : Stage (Outside P K)) : Type 0 where
  pub walk : Performs t (ways m before.arena.number) (resize_of t before.arena c nb) before.outside before.said (took after.arena) after.arena result after.said after.outside
  pub keeps : IfOk result (λ found. Balances (full m) before (one_chunk c) (chunks_kept c found) after)
  pub spares : IfErr result (λ s. Spares (full m) before (one_chunk c) (chunks_kept c s.found) after)
  pub strands : IfErr result (λ s. Strands m t c nb before s.found after)
  pub mapped : IfErr result (λ s. (d : Chunk) → s.found ≡ InMapping d → StopsInMapping m t c nb before d after)
