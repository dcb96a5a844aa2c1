-- What the body of a rule does in a hold: it goes through the rules, and the chunks are accounted for (this project's own).
use Rattle.std.specs.Prelude.{◌≡◌, ℕ, ◌+◌, ◌≤◌, ◌&&◌, nat_eq, Bool, false, List, Some, None, Result, IfOk, OnErr, count_by}
use Rattle.chunk_tags.specs.BinOrder.{same_chunk, once}
use Rattle.chunk_tags.specs.declared.tiles.Chunk.{Chunk}
use Rattle.chunk_tags.specs.declared.block.Block.{Block}
use Rattle.chunk_tags.specs.declared.tunables.Tunables.{Tunables}
use Rattle.address_space.specs.declared.space.Space.{Space}
use Rattle.thread_cache.specs.Caches.{CacheValue, blocks_of}
use Rattle.fast_bins.specs.FastPorts.{Fast}
use Rattle.arena_rules.specs.declared.said.Said.{Said}
use Rattle.arena_rules.specs.PlainArena.{Plain, IsSound, times_used}
use Rattle.arena_rules.specs.MainPlaces.{IsPlaced}
use Rattle.arena_rules.specs.Rules.{Rules}
use Rattle.arena_rules.specs.Walks.{Performs}
use Rattle.consolidate_trim.specs.Outside.{Means, Outside, ways}

-- a hold, as it is between two steps: its arena, what is beside it, and the answers so far
pub record Hold (P K : Type 0) : Type 0 where
  pub arena : Plain
  pub port : P
  pub cache : CacheValue
  pub space : Space K
  pub said : List Said

abbrev pub hold : {P K : Type 0} → Plain → P → CacheValue → Space K → List Said → Hold P K
hold arena port cache space said = record { arena = arena; port = port; cache = cache; space = space; said = said }

abbrev pub outside : {P K : Type 0} → Hold P K → Outside P K
outside h = record { port = h.port; cache = h.cache; space = h.space }

-- Chunks in somebody's hand, as often as each stands there.
abbrev pub Chunks : Type 0
Chunks = Chunk → ℕ

abbrev pub no_chunk : Chunks
no_chunk e = 0

abbrev pub one_chunk : Chunk → Chunks
one_chunk c e = once e c

-- a block of the arena with this number that is a chunk
abbrev pub is_block_of : ℕ → Chunk → Block → Bool
is_block_of number c b =
    same_chunk c (record { at = b.addr; size = b.size }) && (elim b.arena [ None ↦ false | Some a ↦ nat_eq a number ])

-- how often a chunk of an arena stands in a cache
abbrev pub times_cached : ℕ → CacheValue → Chunks
times_cached number cache c = count_by (is_block_of number c) (blocks_of cache)

-- a cache has of other arenas than the one with this number what it had
abbrev pub KeepsOthers : ℕ → CacheValue → CacheValue → Type 0
KeepsOthers number c d = (n : ℕ) → (n ≡ number → ⊥) → (e : Chunk) → times_cached n c e ≡ times_cached n d e

-- An arena is sound, and the chunks that its port may give, with those in hand, are used ones, as often.
pub record IsBacked {P : Type 0} (fast : Fast P) (a : Plain) (port : P) (hand : Chunks) : Type 0 where
  pub sound : IsSound a
  pub used : (e : Chunk) → fast.stock port e + hand e ≤ times_used e a

-- The used chunks changed as those of the port, of the cache and in hand did: what was given is in the arena, the port or
-- the cache, and what was got is used.
pub record Keeps {P K : Type 0} (fast : Fast P) (before : Hold P K) (given : Chunks) (got : Chunks) (after : Hold P K) : Type 0 where
  pub sound : IsSound after.arena
  pub number : after.arena.number ≡ before.arena.number
  pub windows : after.arena.windows ≡ before.arena.windows
  pub placed : IsPlaced before.arena → IsPlaced after.arena
  pub cached : (e : Chunk) → times_cached before.arena.number before.cache e ≤ times_cached before.arena.number after.cache e
  pub others : KeepsOthers before.arena.number before.cache after.cache
  pub kept : (e : Chunk) →
      times_used e after.arena + (fast.stock before.port e + times_cached before.arena.number before.cache e + given e)
      ≡ times_used e before.arena + (fast.stock after.port e + times_cached before.arena.number after.cache e + got e)

-- The same where memory was short: no chunk of another hand came out of use. What was given, or was taken meanwhile, may
-- be in nobody's hand then.
pub record Spares {P K : Type 0} (fast : Fast P) (before : Hold P K) (given : Chunks) (after : Hold P K) : Type 0 where
  pub sound : IsSound after.arena
  pub number : after.arena.number ≡ before.arena.number
  pub windows : after.arena.windows ≡ before.arena.windows
  pub placed : IsPlaced before.arena → IsPlaced after.arena
  pub cached : (e : Chunk) → times_cached before.arena.number before.cache e ≤ times_cached before.arena.number after.cache e
  pub others : KeepsOthers before.arena.number before.cache after.cache
  pub kept : (e : Chunk) →
      times_used e before.arena + (fast.stock after.port e + times_cached before.arena.number after.cache e)
      ≤ times_used e after.arena + (fast.stock before.port e + times_cached before.arena.number before.cache e + given e)

-- What a body does, given these chunks: it goes through the rules to their end, or is left where memory is short; and the
-- chunks are accounted for. `made` is what the rules end with, and `got` the chunks that come out.
pub record Carries {P K A X E : Type 0} (m : Means P K) (t : Tunables) (rules : Rules A) (given : Chunks)
    (before : Hold P K) (made : X → A) (got : X → Chunks) (result : Result X E) (after : Hold P K) : Type 0 where
  pub walk : Performs t (ways m before.arena.number) rules (outside before) before.said made after.arena result after.said (outside after)
  pub keeps : IfOk result (λ x. Keeps m.fast before given (got x) after)
  pub spares : OnErr result (Spares m.fast before given after)

-- The same where nothing comes out, and the rules end with the arena: a body that gives chunks up.
abbrev pub GivesUp : {P K X E : Type 0} → Means P K → Tunables → Rules Plain → Chunks → Hold P K → Result X E → Hold P K → Type 0
GivesUp m t rules given before result after = Carries m t rules given before (λ _. after.arena) (λ _. no_chunk) result after
