-- What the parts of a search for an aligned chunk promise (this project's own).
use Rattle.std.specs.Prelude.{◌≡◌, ℕ, ◌+◌, ◌%◌, ◌^◌, ◌<◌, Some, Result, Ok, Err, MatchResult}
use Rattle.chunk_tags.specs.declared.refusals.NoMemory.{NoMemory}
use Rattle.chunk_tags.specs.declared.tiles.Chunk.{Chunk}
use Rattle.chunk_tags.specs.declared.tunables.Tunables.{Tunables}
use Rattle.arena_rules.specs.Align.{aligned_block}
use Rattle.arena_rules.specs.Growth.{Took}
use Rattle.arena_rules.specs.Resize.{took_in, front_of}
use Rattle.arena_rules.specs.Moves.{parted}
use Rattle.arena_rules.specs.Rules.{Rules}
use Rattle.consolidate_trim.specs.Holds.{one_chunk}
use Rattle.consolidate_trim.specs.Outside.{Means, Outside}
use Rattle.arena_growth.specs.Ledgers.{Stage, stage, Works, full}
use Rattle.arena_growth.specs.Steps.{IsEnough}
use Rattle.arena_growth.specs.declared.found.Found.{Found}
use Rattle.arena_growth.specs.declared.found.Found.TheVariants.{InArena, InMapping, Nowhere}
use Rattle.arena_growth.specs.Asking.{Closes}

-- A chunk of the arena goes through these rules, and part of it is kept.
abbrev pub AlignsChunk : {P K : Type 0} → Means P K → Tunables → Rules Took → Chunk → Stage (Outside P K) → Result Chunk NoMemory → Stage (Outside P K) → Type 0
AlignsChunk m t rules c before result after =
    Works (full m) t rules (one_chunk c) before (λ d. took_in d after.arena) one_chunk result after

-- A lead is cut off a used chunk, and released.
abbrev pub CutsLead : {P K : Type 0} → Means P K → Tunables → Chunk → ℕ → Stage (Outside P K) → Result Chunk NoMemory → Stage (Outside P K) → Type 0
CutsLead m t c lead before result after =
    let Releases : Result (Unit {0}) NoMemory → Type 0 = λ r. Closes m t (Some (front_of c lead)) (stage (parted before.arena c lead) before.outside before.said) r after in
    MatchResult result (λ _. Releases (Ok tt)) (λ e. Releases (Err e))

-- a size at an address that is enough for a need, with an aligned user address
pub record FitsAt (align need at size : ℕ) : Type 0 where
  pub enough : IsEnough need size
  pub aligned : (at + 16) % align ≡ 0

-- a mapping with an aligned block behind its lead, which has 8 bytes more; it lies in 64 bits
pub record FitsMapping (align nb : ℕ) (c : Chunk) : Type 0 where
  pub block : let b = aligned_block align c in FitsAt align (nb + 8) b.addr b.size
  pub end : c.at + c.size < 2 ^ 64

-- what was found is enough and aligned
abbrev pub FitsAligned : ℕ → ℕ → Found → Type 0
FitsAligned align nb (InArena c) = FitsAt align nb c.at c.size
FitsAligned align nb (InMapping c) = FitsMapping align nb c
FitsAligned align nb Nowhere = Unit {0}
