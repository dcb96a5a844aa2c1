-- Another arena is opened: glibc 2.31 malloc/arena.c, _int_new_arena. That a refused opening leaves no entry is this
-- project's own.
use Rattle.std.specs.Prelude.{◌≡◌, ℕ, List, [], ◌∷◌, Some, None}
use Rattle.chunk_tags.specs.declared.tunables.Tunables.{Tunables}
use Rattle.address_space.specs.Ports.{Port, Rose}
use Rattle.address_space.specs.Spaces.{space_refusals}
use Rattle.address_space.specs.declared.space.Space.{Space}
use Rattle.arena_rules.specs.declared.said.Said.{Said}
use Rattle.arena_rules.specs.PlainArena.{Plain, IsSound}
use Rattle.arena_rules.specs.Growth.{opened}
use Rattle.arena_rules.specs.Rules.{Stop}
use Rattle.arena_rules.specs.Walks.{Reaches, StopsShort}
use Rattle.arena_growth.specs.FirstHeap.{asked_ways, closed_arena, HasFirstHeap}
use Rattle.arena_core.specs.declared.journal.Act.TheVariants.{Open}
use Rattle.arena_core.specs.declared.journal.Ended.TheVariants.{Done}
use Rattle.arena_core.specs.declared.journal.Who.{Who}
use Rattle.arena_core.specs.Arenas.{recorded}
use Rattle.arena_core.specs.Journal.{Recorded}

-- An arena was opened by somebody: it has its heap 0 alone, and its journal this alone.
pub record OpensAs {M K : Type 0} (plain : M → Plain) (port : Port K) (t : Tunables) (who : Who) (number bytes : ℕ) (before : Space K)
    (ground : M) (journal : List Recorded) (after : Space K) : Type 0 where
  pub said : List Said
  pub walks : Reaches t (asked_ways port) (opened t bytes (closed_arena t number)) before [] (Stop (Some (plain ground))) said after
  pub sound : IsSound (plain ground)
  pub first : HasFirstHeap t number (plain ground)
  pub windows : after.windows ≡ before.windows
  pub journal_is : journal ≡ recorded who (Open bytes) said Done ∷ []

-- Both asks were refused, and the count of refusals rose.
pub record RefusesOpening {K : Type 0} (port : Port K) (t : Tunables) (number bytes : ℕ) (before after : Space K) : Type 0 where
  pub said : List Said
  pub walks : Reaches t (asked_ways port) (opened t bytes (closed_arena t number)) before [] (Stop None) said after
  pub rose : Rose (space_refusals port before) (space_refusals port after)
  pub windows : after.windows ≡ before.windows

-- Memory was short before an ask.
pub record OpensShort {K : Type 0} (port : Port K) (t : Tunables) (number bytes : ℕ) (before after : Space K) : Type 0 where
  pub said : List Said
  pub stops : StopsShort t (asked_ways port) (opened t bytes (closed_arena t number)) before [] (closed_arena t number) said after
  pub windows : after.windows ≡ before.windows
