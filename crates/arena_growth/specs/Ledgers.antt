-- What a body of the rules promises, whatever stands beside its arena: it goes through the rules, and the chunks are
-- accounted for (this project's own). A body that needs the caller's cache alone promises it over the cache, one that
-- needs the fast bins too over both; what holds there holds beside all the rest of a hold.
use Rattle.std.specs.Prelude.{◌≡◌, ℕ, ◌+◌, ◌≤◌, Bool, List, None, Result, IfOk, OnErr}
use Rattle.chunk_tags.specs.declared.tiles.Chunk.{Chunk}
use Rattle.chunk_tags.specs.declared.tunables.Tunables.{Tunables}
use Rattle.thread_cache.specs.Caches.{CacheValue, has_room}
use Rattle.fast_bins.specs.FastPorts as fasts
use Rattle.fast_bins.specs.FastPorts.{Fast, Did, Idles}
use Rattle.mapped_chunks.specs.DialPorts as dial_steps
use Rattle.mapped_chunks.specs.DialPorts.{Dialled}
use Rattle.arena_rules.specs.PlainArena.{Plain, IsSound, times_used}
use Rattle.arena_rules.specs.MainPlaces.{IsPlaced}
use Rattle.arena_rules.specs.Rules.{Rules, Need, Flagged, Pops, Owns, Rooms, Reads, Deed, Clears, Gathers, Stashes, Draws, cache_after_deed}
use Rattle.arena_rules.specs.Walks.{Ways, Performs}
use Rattle.arena_rules.specs.declared.said.Said.{Said}
use Rattle.arena_rules.specs.declared.said.Said.TheVariants as told
use Rattle.consolidate_trim.specs.FastHolds.{fast_ways}
use Rattle.consolidate_trim.specs.Holds.{Chunks, no_chunk, times_cached, KeepsOthers}
use Rattle.consolidate_trim.specs.Outside.{Means, Outside, ways}

-- What stands beside an arena: how it goes on in a hold of the arena with a number, and which chunks are there.
pub record Ledger (O : Type 0) : Type 1 where
  pub ways : ℕ → Ways O
  pub stock : O → Chunks
  pub cache : O → CacheValue

-- an arena, what is beside it, and the answers so far, between two steps
pub record Stage (O : Type 0) : Type 0 where
  pub arena : Plain
  pub outside : O
  pub said : List Said

abbrev pub stage : {O : Type 0} → Plain → O → List Said → Stage O
stage arena outside said = record { arena = arena; outside = outside; said = said }

-- the chunks in the stock and in the cache
abbrev pub elsewhere : {O : Type 0} → Ledger O → ℕ → O → Chunks
elsewhere l number o e = l.stock o e + times_cached number (l.cache o) e

-- the cache has its chunks still
abbrev pub KeepsCached : {O : Type 0} → Ledger O → ℕ → O → O → Type 0
KeepsCached l number o p = (e : Chunk) → times_cached number (l.cache o) e ≤ times_cached number (l.cache p) e

-- The used chunks changed as those beside the arena and in hand did.
pub record Balances {O : Type 0} (l : Ledger O) (before : Stage O) (given got : Chunks) (after : Stage O) : Type 0 where
  pub sound : IsSound after.arena
  pub number : after.arena.number ≡ before.arena.number
  pub windows : after.arena.windows ≡ before.arena.windows
  pub placed : IsPlaced before.arena → IsPlaced after.arena
  pub cached : KeepsCached l before.arena.number before.outside after.outside
  pub others : KeepsOthers before.arena.number (l.cache before.outside) (l.cache after.outside)
  pub kept : (e : Chunk) → times_used e after.arena + (elsewhere l before.arena.number before.outside e + given e)
      ≡ times_used e before.arena + (elsewhere l before.arena.number after.outside e + got e)

-- The same where memory was short: no used chunk beside the arena or in another hand was lost.
pub record Loses {O : Type 0} (l : Ledger O) (before : Stage O) (given : Chunks) (after : Stage O) : Type 0 where
  pub sound : IsSound after.arena
  pub number : after.arena.number ≡ before.arena.number
  pub windows : after.arena.windows ≡ before.arena.windows
  pub placed : IsPlaced before.arena → IsPlaced after.arena
  pub cached : KeepsCached l before.arena.number before.outside after.outside
  pub others : KeepsOthers before.arena.number (l.cache before.outside) (l.cache after.outside)
  pub kept : (e : Chunk) → times_used e before.arena + elsewhere l before.arena.number after.outside e
      ≤ times_used e after.arena + (elsewhere l before.arena.number before.outside e + given e)

-- What a body does, given these chunks.
pub record Works {O A X E : Type 0} (l : Ledger O) (t : Tunables) (rules : Rules A) (given : Chunks)
    (before : Stage O) (made : X → A) (got : X → Chunks) (result : Result X E) (after : Stage O) : Type 0 where
  pub walk : Performs t (l.ways before.arena.number) rules before.outside before.said made after.arena result after.said after.outside
  pub keeps : IfOk result (λ x. Balances l before given (got x) after)
  pub spares : OnErr result (Loses l before given after)

-- The caller's cache alone.

pub record RoomTold (c : CacheValue) (size : ℕ) (answer : Bool) (d : CacheValue) : Type 0 where
  pub told : answer ≡ has_room c size
  pub same : d ≡ c

abbrev pub CacheGoes : CacheValue → Need → Said → CacheValue → Type 0
CacheGoes c (Rooms size) (told.Room b) d = RoomTold c size b d
CacheGoes c need said d = ⊥

abbrev pub CacheDoes : ℕ → CacheValue → Deed → CacheValue → Type 0
CacheDoes number c (Stashes k) d = d ≡ cache_after_deed number (Stashes k) c
CacheDoes number c (Draws size) d = d ≡ cache_after_deed number (Draws size) c
CacheDoes number c deed d = ⊥

abbrev pub shelf : Ledger CacheValue
shelf = record {
  ways = λ number. record { goes = CacheGoes; does = CacheDoes number; idles = λ c d. ⊥ };
  stock = λ c. no_chunk;
  cache = λ c. c;
}

-- The fast bins and the caller's cache.

pub record Near (P : Type 0) : Type 0 where
  pub port : P
  pub cache : CacheValue

abbrev pub near : {P : Type 0} → P → CacheValue → Near P
near port cache = record { port = port; cache = cache }

pub record PortGoes {P : Type 0} (fast : Fast P) (o : Near P) (s : fasts.FastStep) (p : Near P) : Type 0 where
  pub did : Did fast o.port s p.port
  pub cache : p.cache ≡ o.cache

pub record PortIdles {P : Type 0} (fast : Fast P) (o p : Near P) : Type 0 where
  pub idles : Idles fast o.port p.port
  pub cache : p.cache ≡ o.cache

-- the cache goes on so, and the port stays
pub record CacheStep {P : Type 0} (o : Near P) (Goes : CacheValue → CacheValue → Type 0) (p : Near P) : Type 0 where
  pub step : Goes o.cache p.cache
  pub port : p.port ≡ o.port

abbrev pub NearGoes : {P : Type 0} → Fast P → Near P → Need → Said → Near P → Type 0
NearGoes fast o Flagged (told.Flag b) p = PortGoes fast o (fasts.Flags b) p
NearGoes fast o (Pops bin) (told.Popped at) p = PortGoes fast o (fasts.Pops bin at) p
NearGoes fast o (Owns bin) (told.Own at) p = PortGoes fast o (fasts.Owns bin at) p
NearGoes fast o (Rooms size) (told.Room b) p = CacheStep o (λ c d. RoomTold c size b d) p
NearGoes fast o need said p = ⊥

abbrev pub NearDoes : {P : Type 0} → Fast P → ℕ → Near P → Deed → Near P → Type 0
NearDoes fast number o Clears p = PortGoes fast o fasts.Clears p
NearDoes fast number o (Gathers bin) p = PortGoes fast o (fasts.Gathers bin) p
NearDoes fast number o (Stashes k) p = CacheStep o (λ c d. d ≡ cache_after_deed number (Stashes k) c) p
NearDoes fast number o (Draws size) p = CacheStep o (λ c d. d ≡ cache_after_deed number (Draws size) c) p
NearDoes fast number o deed p = ⊥

abbrev pub near_ledger : {P : Type 0} → Fast P → Ledger (Near P)
near_ledger fast = record {
  ways = λ number. record { goes = NearGoes fast; does = NearDoes fast number; idles = PortIdles fast };
  stock = λ o. fast.stock o.port;
  cache = λ o. o.cache;
}

-- All that stands beside an arena in a hold.

abbrev pub full : {P K : Type 0} → Means P K → Ledger (Outside P K)
full m = record { ways = ways m; stock = λ o. m.fast.stock o.port; cache = λ o. o.cache }

-- The fast bins alone.

abbrev pub fast_ledger : {P : Type 0} → Fast P → Ledger P
fast_ledger fast = record { ways = λ n. fast_ways fast; stock = λ p. fast.stock p; cache = λ p. None }

-- The words beside the arenas alone, of a port that has fast bins too.

abbrev pub WordGoes : {P : Type 0} → Dialled P → P → Need → Said → P → Type 0
WordGoes dials p (Reads which) (told.Dial n) q = dials.step p (dial_steps.Reads which n) q
WordGoes dials p need said q = ⊥

abbrev pub word_ledger : {P : Type 0} → Fast P → Dialled P → Ledger P
word_ledger fast dials = record {
  ways = λ n. record { goes = WordGoes dials; does = λ p d q. ⊥; idles = λ p q. ⊥ };
  stock = λ p. fast.stock p;
  cache = λ p. None;
}
