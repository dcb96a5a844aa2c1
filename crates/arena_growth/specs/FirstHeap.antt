-- Heap 0 of another arena is asked for: glibc 2.31 malloc/arena.c, _int_new_arena.
use Rattle.std.specs.Prelude.{◌≡◌, ℕ, List, Option, Some, None, option_map, Result, IfOk, IfSome, IsNone, OnErr}
use Rattle.chunk_tags.specs.declared.refusals.NoMemory.{NoMemory}
use Rattle.chunk_tags.specs.declared.tunables.Tunables.{Tunables}
use Rattle.address_space.specs.Ports.{Port, Rose}
use Rattle.address_space.specs.Spaces.{AsksWithin, space_refusals}
use Rattle.address_space.specs.declared.space.Space.{Space}
use Rattle.arena_rules.specs.declared.said.Said.{Said}
use Rattle.arena_rules.specs.declared.said.Said.TheVariants as told
use Rattle.arena_rules.specs.PlainArena.{Plain, IsSound}
use Rattle.arena_rules.specs.Heaps.{unopened, opened_arena}
use Rattle.arena_rules.specs.Growth.{first_heap, opened}
use Rattle.arena_rules.specs.Rules.{Rules, Stop, Need, Asks, heap_windows_of, passes_window}
use Rattle.arena_rules.specs.Walks.{Ways, Reaches, StopsShort}

-- the ways of an address space alone, of which something is asked
abbrev pub SpaceAnswers : {K : Type 0} → Port K → Space K → Need → Said → Space K → Type 0
SpaceAnswers port s (Asks ask) (told.Asked asked answer) z = AsksWithin port s (passes_window s.windows asked) asked answer z
SpaceAnswers port s need said z = ⊥

abbrev pub asked_ways : {K : Type 0} → Port K → Ways (Space K)
asked_ways port = record { goes = SpaceAnswers port; does = λ s deed z. ⊥; idles = λ s z. ⊥ }

-- the arena with this number before it is opened
abbrev pub closed_arena : Tunables → ℕ → Plain
closed_arena t number = unopened number (heap_windows_of t)

-- the arena with this number has its heap 0, of some length, and nothing else
abbrev pub HasFirstHeap : Tunables → ℕ → Plain → Type 0
HasFirstHeap t number b = (len : ℕ) × (b ≡ opened_arena (closed_arena t number) len)

-- One ask for heap 0, and what the arena is where it was granted.
pub record AsksFirst {M K : Type 0} (plain : M → Plain) (port : Port K) (t : Tunables) (number need : ℕ) (before : Space K) (said : List Said)
    (result : Result (Option M) NoMemory) (after : Space K) (said' : List Said) : Type 0 where
  pub asked : IfOk result (λ o. (refused : Rules (Option Plain)) →
      Reaches t (asked_ways port) (first_heap t need (closed_arena t number) refused) before said (elim o [ Some g ↦ Stop (Some (plain g)) | None ↦ refused ]) said' after)
  pub sound : IfOk result (λ o. IfSome o (λ g. IsSound (plain g)))
  pub first : IfOk result (λ o. IfSome o (λ g. HasFirstHeap t number (plain g)))
  pub rose : IfOk result (λ o. IsNone o → Rose (space_refusals port before) (space_refusals port after))
  pub windows : after.windows ≡ before.windows
  pub short : OnErr result ((refused : Rules (Option Plain)) →
      StopsShort t (asked_ways port) (first_heap t need (closed_arena t number) refused) before said (closed_arena t number) said' after)

-- An arena was opened, or all that was asked for was refused; where memory is short, the asks before it were put.
pub record Opens {M K : Type 0} (plain : M → Plain) (port : Port K) (t : Tunables) (number bytes : ℕ) (before : Space K) (said : List Said)
    (result : Result (Option M) NoMemory) (after : Space K) (said' : List Said) : Type 0 where
  pub walks : IfOk result (λ o. Reaches t (asked_ways port) (opened t bytes (closed_arena t number)) before said (Stop (option_map plain o)) said' after)
  pub sound : IfOk result (λ o. IfSome o (λ g. IsSound (plain g)))
  pub first : IfOk result (λ o. IfSome o (λ g. HasFirstHeap t number (plain g)))
  pub rose : IfOk result (λ o. IsNone o → Rose (space_refusals port before) (space_refusals port after))
  pub windows : after.windows ≡ before.windows
  pub short : OnErr result (StopsShort t (asked_ways port) (opened t bytes (closed_arena t number)) before said (closed_arena t number) said' after)
