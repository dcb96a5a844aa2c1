-- The system is asked: for a mapping, or the arena grows.
use Rattle.std.proofs.Common.{ℕ, Bool, true, false, List, Option, Some, None, Result, Ok, Err, refl}
use Rattle.std.specs.Prelude.{if◌then◌else◌}
use Rattle.std.specs.Result.{IsErr}
use Rattle.chunk_tags.specs.declared.refusals.NoMemory.{NoMemory}
use Rattle.chunk_tags.specs.declared.tiles.Chunk.{Chunk}
use Rattle.chunk_tags.specs.declared.tunables.Tunables.{Tunables}
use Rattle.address_space.specs.declared.space.Space.{Space}
use Rattle.thread_cache.specs.Caches.{CacheValue}
use Rattle.arena_rules.specs.declared.said.Said.{Said}
use Rattle.arena_rules.specs.PlainArena.{Plain, IsSound}
use Rattle.arena_rules.specs.Growth as growth
use Rattle.arena_rules.specs.Growth.{mapping, maps_first, maps_else, grown, system_asked}
use Rattle.arena_rules.specs.Rules.{Rules, Stop}
use Rattle.consolidate_trim.specs.Holds.{no_chunk}
use Rattle.consolidate_trim.specs.Outside.{Means, Outside}
use Rattle.arena_growth.specs.Ledgers.{Stage, stage, full}
use Rattle.arena_growth.proofs.Balance.{works_ok}
use Rattle.arena_growth.proofs.Lifting.{works_put}
use Rattle.arena_growth.proofs.Parts.{Passes, passes_behind, works_after, short_behind_works}
use Rattle.arena_growth.specs.declared.found.Found.{Found}
use Rattle.arena_growth.specs.declared.found.Found.TheVariants as finds
use Rattle.arena_growth.specs.Asking.{IsReady, AsksMapping, AsksWhether, Finds, AllowsMaps, beside_arena}
use Rattle.arena_growth.proofs.MainGrowth.{ready_after}
use Rattle.arena_growth.proofs.Mappings.{word_part}

-- ---- a mapping, or else

abbrev at_mapping : Plain → Rules growth.Took → Option Chunk → Rules growth.Took
at_mapping a refused mapped = elim mapped [ Some c ↦ Stop (record { found = growth.InMapping c; arena = a }) | None ↦ refused ]

pub maps_short : {P K : Type 0} (m : Means P K) (t : Tunables) (nb : ℕ) (refused : Rules growth.Took) (a : Plain) (p q : P) (cache : CacheValue) (space space' : Space K) (said said' : List Said) (d : NoMemory) (r : Result Found NoMemory) → IsErr r → IsSound a → AsksMapping m nb p space said (Err d) q space' said' →
    Finds m t (maps_else nb a refused) (stage a (beside_arena p cache space) said) r (stage a (beside_arena q cache space') said')
maps_short m t nb refused a p q cache space space' said said' d r is s asks = short_behind_works (at_mapping a refused) d r is (asks.works t a cache s)

pub maps_found : {P K : Type 0} (m : Means P K) (t : Tunables) (nb : ℕ) (refused : Rules growth.Took) (a : Plain) (p q : P) (cache : CacheValue) (space space' : Space K) (said said' : List Said) (c : Chunk) → IsSound a → AsksMapping m nb p space said (Ok (Some c)) q space' said' →
    Finds m t (maps_else nb a refused) (stage a (beside_arena p cache space) said) (Ok (finds.InMapping c)) (stage a (beside_arena q cache space') said')
maps_found m t nb refused a p q cache space space' said said' c s asks =
    let f = passes_behind (at_mapping a refused) (Some c) (asks.works t a cache s) in
    works_ok f.reaches f.balances

maps_on : {P K : Type 0} (m : Means P K) (t : Tunables) (nb : ℕ) (refused : Rules growth.Took) (a : Plain) (p q : P) (cache : CacheValue) (space space' : Space K) (said said' : List Said) → IsSound a → AsksMapping m nb p space said (Ok None) q space' said' →
    Passes (full m) t (maps_else nb a refused) (stage a (beside_arena p cache space) said) no_chunk refused (stage a (beside_arena q cache space') said')
maps_on m t nb refused a p q cache space space' said said' s asks = passes_behind (at_mapping a refused) None (asks.works t a cache s)

pub maps_refused : {P K : Type 0} (m : Means P K) (t : Tunables) (nb : ℕ) (refused : Rules growth.Took) (a : Plain) (p q : P) (cache : CacheValue) (space space' : Space K) (said said' : List Said) (z : Stage (Outside P K)) (r : Result Found NoMemory) → IsSound a → AsksMapping m nb p space said (Ok None) q space' said' →
    Finds m t refused (stage a (beside_arena q cache space') said') r z → Finds m t (maps_else nb a refused) (stage a (beside_arena p cache space) said) r z
maps_refused m t nb refused a p q cache space space' said said' z r s asks w = works_after r (maps_on m t nb refused a p q cache space space' said said' s asks) (λ e. refl) w

pub refused_map_ready : {P K : Type 0} (m : Means P K) (t : Tunables) (nb : ℕ) (a : Plain) (p q : P) (cache : CacheValue) (space space' : Space K) (said said' : List Said) → IsReady m t (stage a (beside_arena p cache space) said) → AsksMapping m nb p space said (Ok None) q space' said' → IsReady m t (stage a (beside_arena q cache space') said')
refused_map_ready m t nb a p q cache space space' said said' ready asks =
    ready_after t ready (maps_on m t nb (Stop (record { found = growth.Nowhere; arena = a })) a p q cache space space' said said' ready.backed.sound asks)

-- ---- whether one is asked for first

abbrev at_first : Tunables → ℕ → Plain → Bool → Rules growth.Took
at_first t nb a first = if first then maps_else nb a (grown t nb true a) else grown t nb false a

pub system_short : {P K : Type 0} (m : Means P K) (t : Tunables) (nb : ℕ) (a : Plain) (p q : P) (cache : CacheValue) (space : Space K) (said said' : List Said) (d : NoMemory) (r : Result Found NoMemory) → IsErr r → IsSound a → AsksWhether m.fast m.dials t nb p said (Err d) q said' →
    Finds m t (system_asked t nb a) (stage a (beside_arena p cache space) said) r (stage a (beside_arena q cache space) said')
system_short m t nb a p q cache space said said' d r is s asks = short_behind_works (at_first t nb a) d r is (works_put (Err d) (word_part m cache space) (asks.works t a s))

system_on : {P K : Type 0} (m : Means P K) (t : Tunables) (nb : ℕ) (a : Plain) (p q : P) (cache : CacheValue) (space : Space K) (said said' : List Said) (b : Bool) → IsSound a → AsksWhether m.fast m.dials t nb p said (Ok b) q said' →
    Passes (full m) t (system_asked t nb a) (stage a (beside_arena p cache space) said) no_chunk (at_first t nb a b) (stage a (beside_arena q cache space) said')
system_on m t nb a p q cache space said said' b s asks = passes_behind (at_first t nb a) b (works_put (Ok b) (word_part m cache space) (asks.works t a s))

pub system_goes : {P K : Type 0} (m : Means P K) (t : Tunables) (nb : ℕ) (a : Plain) (p q : P) (cache : CacheValue) (space : Space K) (said said' : List Said) (b : Bool) (z : Stage (Outside P K)) (r : Result Found NoMemory) → IsSound a → AsksWhether m.fast m.dials t nb p said (Ok b) q said' →
    Finds m t (at_first t nb a b) (stage a (beside_arena q cache space) said') r z → Finds m t (system_asked t nb a) (stage a (beside_arena p cache space) said) r z
system_goes m t nb a p q cache space said said' b z r s asks w = works_after r (system_on m t nb a p q cache space said said' b s asks) (λ e. refl) w

pub whether_ready : {P K : Type 0} (m : Means P K) (t : Tunables) (nb : ℕ) (a : Plain) (p q : P) (cache : CacheValue) (space : Space K) (said said' : List Said) (b : Bool) → IsReady m t (stage a (beside_arena p cache space) said) → AsksWhether m.fast m.dials t nb p said (Ok b) q said' → IsReady m t (stage a (beside_arena q cache space) said')
whether_ready m t nb a p q cache space said said' b ready asks = ready_after t ready (system_on m t nb a p q cache space said said' b ready.backed.sound asks)

pub whether_allows : {P K : Type 0} (m : Means P K) (t : Tunables) (nb : ℕ) (p q : P) (space : Space K) (said said' : List Said) (r : Result Bool NoMemory) → AllowsMaps m.dials p space → AsksWhether m.fast m.dials t nb p said r q said' → AllowsMaps m.dials q space
whether_allows m t nb p q space said said' r allows asks = record { allowed = λ len h. asks.allows _ (allows.allowed len h) }
