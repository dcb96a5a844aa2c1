-- What a search meets that asks the system, and what its parts promise (this project's own).
use Rattle.std.specs.Prelude.{◌≡◌, ℕ, ◌+◌, ◌%◌, ◌^◌, ◌<◌, ◌≤◌, Bool, true, false, IsTrue, Option, Some, None, if◌then◌else◌, List, Result, IfOk, OnErr, [], ◌∷◌, ◌++◌}
use Rattle.chunk_tags.specs.BinOrder.{once}
use Rattle.chunk_tags.specs.declared.refusals.NoMemory.{NoMemory}
use Rattle.chunk_tags.specs.declared.tiles.Chunk.{Chunk}
use Rattle.chunk_tags.specs.declared.tunables.Tunables.{Tunables}
use Rattle.chunk_tags.specs.Tunables.{main_limit}
use Rattle.address_space.specs.Ports.{Port}
use Rattle.address_space.specs.Spaces.{map_passes, AsksWithin}
use Rattle.address_space.specs.declared.asks.Ask.{Ask}
use Rattle.address_space.specs.declared.asks.Answer.{Answer}
use Rattle.address_space.specs.declared.asks.Answer.TheVariants.{Granted, Refused}
use Rattle.address_space.specs.declared.space.Space.{Space}
use Rattle.thread_cache.specs.Caches.{CacheValue}
use Rattle.fast_bins.specs.FastPorts.{Fast}
use Rattle.mapped_chunks.specs.DialPorts as dial_steps
use Rattle.mapped_chunks.specs.DialPorts.{Dialled}
use Rattle.arena_rules.specs.declared.said.Said.{Said}
use Rattle.arena_rules.specs.declared.said.Said.TheVariants as told
use Rattle.arena_rules.specs.PlainArena.{Plain, IsSound, is_main, once_of, times_used}
use Rattle.arena_rules.specs.MainPlaces.{IsPlaced}
use Rattle.arena_rules.specs.Rules.{Rules, windows_of, heap_windows_of, passes_window}
use Rattle.arena_rules.specs.Growth as growth
use Rattle.arena_rules.specs.Growth.{mapping, maps_first, closing}
use Rattle.consolidate_trim.specs.Holds.{Chunks, no_chunk, IsBacked}
use Rattle.consolidate_trim.specs.Outside.{Means, Outside}
use Rattle.arena_growth.specs.Ledgers.{Stage, stage, Works, full, word_ledger}
use Rattle.arena_growth.specs.Steps.{IsEnough}
use Rattle.arena_growth.specs.declared.found.Found.{Found}
use Rattle.arena_growth.specs.declared.found.Found.TheVariants.{InArena, InMapping, Nowhere}

abbrev pub beside_arena : {P K : Type 0} → P → CacheValue → Space K → Outside P K
beside_arena port cache space = record { port = port; cache = cache; space = space }

-- tunables in their ranges, as far as a search reads them
pub record IsSearchable (t : Tunables) : Type 0 where
  pub pad : t.top_pad < 2 ^ 31
  pub fast : t.max_fast ≤ 160
  pub main : t.main_max ≤ main_limit
  pub heap : t.heap_max ≤ 67108864

-- a mapping that doesn't pass its window may be counted
pub record AllowsMaps {P K : Type 0} (dials : Dialled P) (port : P) (space : Space K) : Type 0 where
  pub allowed : (len : ℕ) → map_passes space len ≡ false → dials.allows port (dial_steps.Maps len)

-- What a hold has before each step that may ask the system.
pub record IsReady {P K : Type 0} (m : Means P K) (t : Tunables) (x : Stage (Outside P K)) : Type 0 where
  pub backed : IsBacked m.fast x.arena x.outside.port no_chunk
  pub placed : IsPlaced x.arena
  pub heaps : is_main x.arena ≡ false → x.arena.windows ≡ heap_windows_of t
  pub windows : x.outside.space.windows ≡ windows_of t

-- the same of a hold of main
pub record IsMainReady {P K : Type 0} (m : Means P K) (t : Tunables) (x : Stage (Outside P K)) : Type 0 where
  pub backed : IsBacked m.fast x.arena x.outside.port no_chunk
  pub main : IsTrue (is_main x.arena)
  pub placed : IsPlaced x.arena
  pub windows : x.outside.space.windows ≡ windows_of t

-- A mapping is asked for, whatever arena and cache are.
pub record AsksMapping {P K : Type 0} (m : Means P K) (nb : ℕ) (port : P) (space : Space K) (said : List Said)
    (result : Result (Option Chunk) NoMemory) (port' : P) (space' : Space K) (said' : List Said) : Type 0 where
  pub works : (t : Tunables) (a : Plain) (cache : CacheValue) → IsSound a →
      Works (full m) t (mapping nb a) no_chunk (stage a (beside_arena port cache space) said) (λ o. o) (λ _. no_chunk) result (stage a (beside_arena port' cache space') said')

-- Whether one is asked for first, whatever the arena is.
pub record AsksWhether {P : Type 0} (fast : Fast P) (dials : Dialled P) (t : Tunables) (nb : ℕ) (port : P) (said : List Said)
    (result : Result Bool NoMemory) (port' : P) (said' : List Said) : Type 0 where
  pub works : (u : Tunables) (a : Plain) → IsSound a →
      Works (word_ledger fast dials) u (maps_first t nb a) no_chunk (stage a port said) (λ b. b) (λ _. no_chunk) result (stage a port' said')
  pub allows : (d : dial_steps.DialStep) → dials.allows port d → dials.allows port' d

-- granted, or refused
abbrev pub granted_answer : Bool → Answer
granted_answer true = Granted
granted_answer false = Refused

-- An ask that isn't for a mapping, with its answer kept; where memory is short it isn't put.
pub record AsksFor {K : Type 0} (kernel : Port K) (ask : Ask) (space : Space K) (said : List Said)
    (result : Result Bool NoMemory) (space' : Space K) (said' : List Said) : Type 0 where
  pub asks : IfOk result (λ granted. AsksWithin kernel space (passes_window space.windows ask) ask (granted_answer granted) space')
  pub told : IfOk result (λ granted. said' ≡ said ++ told.Asked ask (granted_answer granted) ∷ [])
  pub unasked : OnErr result (space' ≡ space)
  pub short : OnErr result (said' ≡ said)

-- What is left of a closed top is released.
abbrev pub Closes : {P K : Type 0} → Means P K → Tunables → Option Chunk → Stage (Outside P K) → Result (Unit {0}) NoMemory → Stage (Outside P K) → Type 0
Closes m t rest before result after =
    Works (full m) t (closing t rest before.arena) (λ e. once_of e rest) before (λ _. after.arena) (λ _. no_chunk) result after

-- The arena grows by these rules.
abbrev pub Grows : {P K : Type 0} → Means P K → Tunables → Rules Plain → Stage (Outside P K) → Result (Unit {0}) NoMemory → Stage (Outside P K) → Type 0
Grows m t rules before result after =
    Works (full m) t rules no_chunk before (λ _. after.arena) (λ _. no_chunk) result after

-- what was found, and the arena then
abbrev pub found_of : Found → growth.Found
found_of (InArena c) = growth.InArena c
found_of (InMapping c) = growth.InMapping c
found_of Nowhere = growth.Nowhere

abbrev pub took : Plain → Found → growth.Took
took a found = record { found = found_of found; arena = a }

-- the chunk of the arena that was found
abbrev pub chunks_found : Found → Chunks
chunks_found (InArena c) e = once e c
chunks_found (InMapping c) e = 0
chunks_found Nowhere e = 0

-- a mapping that is enough has 8 bytes more, begins with a page, and lies in 64 bits
pub record IsEnoughMapped (nb : ℕ) (c : Chunk) : Type 0 where
  pub enough : IsEnough (nb + 8) c.size
  pub page : c.at % 4096 ≡ 0
  pub end : c.at + c.size < 2 ^ 64

-- the chunk that was found is enough
abbrev pub FitsFound : ℕ → Found → Type 0
FitsFound nb (InArena c) = IsEnough nb c.size
FitsFound nb (InMapping c) = IsEnoughMapped nb c
FitsFound nb Nowhere = Unit {0}

-- A chunk is found by these rules, or nothing.
abbrev pub Finds : {P K : Type 0} → Means P K → Tunables → Rules growth.Took → Stage (Outside P K) → Result Found NoMemory → Stage (Outside P K) → Type 0
Finds m t rules before result after = Works (full m) t rules no_chunk before (took after.arena) chunks_found result after

-- the chunk of an option
abbrev pub chunks_in : Option Chunk → Chunks
chunks_in o e = once_of e o

-- The most bytes that there were are raised, and a chunk is cut from top where that suffices.
pub record CutsFromGrown (nb : ℕ) (a : Plain) (found : Found) (b : Plain) : Type 0 where
  pub ends : growth.from_top nb (growth.noted a) ≡ took b found
  pub sound : IsSound b
  pub number : b.number ≡ a.number
  pub windows : b.windows ≡ a.windows
  pub placed : IsPlaced a → IsPlaced b
  pub used : (e : Chunk) → times_used e b ≡ times_used e a + chunks_found found e

-- the arena whose heaps grew, or none
abbrev pub grown_of : Plain → Bool → Option Plain
grown_of a grown = if grown then Some a else None

-- Another arena's heaps grow; or both asks are refused, and it is as it was.
pub record GrowsHeaps {P K : Type 0} (m : Means P K) (t : Tunables) (nb : ℕ) (before : Stage (Outside P K)) (result : Result Bool NoMemory) (after : Stage (Outside P K)) : Type 0 where
  pub works : Works (full m) t (growth.heaps_grown t nb before.arena) no_chunk before (grown_of after.arena) (λ _. no_chunk) result after
  pub same : IfOk result (λ grown. grown ≡ false → after.arena ≡ before.arena)
  pub allows : AllowsMaps m.dials before.outside.port before.outside.space →
      IfOk result (λ grown. grown ≡ false → AllowsMaps m.dials after.outside.port after.outside.space)
