-- What a body does that has nothing beside the arena but its fast bins (this project's own).
use Rattle.std.specs.Prelude.{◌≡◌, ◌+◌, List, Result}
use Rattle.chunk_tags.specs.declared.tiles.Chunk.{Chunk}
use Rattle.chunk_tags.specs.declared.tunables.Tunables.{Tunables}
use Rattle.fast_bins.specs.FastPorts as fasts
use Rattle.fast_bins.specs.FastPorts.{Fast, Did, Idles}
use Rattle.arena_rules.specs.PlainArena.{Plain, IsSound, times_used}
use Rattle.arena_rules.specs.MainPlaces.{IsPlaced}
use Rattle.arena_rules.specs.Rules.{Rules, Need, Flagged, Pops, Owns, Deed, Clears, Gathers}
use Rattle.arena_rules.specs.Walks.{Ways, Performs}
use Rattle.arena_rules.specs.declared.said.Said.{Said}
use Rattle.arena_rules.specs.declared.said.Said.TheVariants as told

-- an arena with its fast bins, between two steps, and the answers so far
pub record FastHold (P : Type 0) : Type 0 where
  pub arena : Plain
  pub port : P
  pub said : List Said

abbrev pub fast_hold : {P : Type 0} → Plain → P → List Said → FastHold P
fast_hold arena port said = record { arena = arena; port = port; said = said }

-- how the fast bins go on with an answer
abbrev pub FastAnswers : {P : Type 0} → Fast P → P → Need → Said → P → Type 0
FastAnswers fast p Flagged (told.Flag b) q = Did fast p (fasts.Flags b) q
FastAnswers fast p (Pops bin) (told.Popped at) q = Did fast p (fasts.Pops bin at) q
FastAnswers fast p (Owns bin) (told.Own at) q = Did fast p (fasts.Owns bin at) q
FastAnswers fast p need said q = ⊥

-- what a deed makes of them
abbrev pub FastDoes : {P : Type 0} → Fast P → P → Deed → P → Type 0
FastDoes fast p Clears q = Did fast p fasts.Clears q
FastDoes fast p (Gathers bin) q = Did fast p (fasts.Gathers bin) q
FastDoes fast p deed q = ⊥

-- the ways of the fast bins alone
abbrev pub fast_ways : {P : Type 0} → Fast P → Ways P
fast_ways fast = record { goes = FastAnswers fast; does = FastDoes fast; idles = Idles fast }

-- Each chunk that the port gave is used no more, and nothing else changed its use.
pub record KeepsStock {P : Type 0} (fast : Fast P) (before after : FastHold P) : Type 0 where
  pub sound : IsSound after.arena
  pub number : after.arena.number ≡ before.arena.number
  pub windows : after.arena.windows ≡ before.arena.windows
  pub placed : IsPlaced before.arena → IsPlaced after.arena
  pub kept : (e : Chunk) →
      times_used e after.arena + fast.stock before.port e ≡ times_used e before.arena + fast.stock after.port e

-- What a body with the fast bins alone does: it goes through the rules, whatever the tunables, to their end or to where
-- memory is short; either way the chunks are accounted for.
pub record Empties {P X E : Type 0} (fast : Fast P) (rules : Rules Plain) (before : FastHold P)
    (result : Result X E) (after : FastHold P) : Type 0 where
  pub walk : (t : Tunables) →
      Performs t (fast_ways fast) rules before.port before.said (λ _. after.arena) after.arena result after.said after.port
  pub keeps : KeepsStock fast before after
