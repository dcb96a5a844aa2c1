-- An arena between two holds (this project's own): what it is, with the journal of its holds.
use Rattle.std.specs.Prelude.{◌≡◌, ℕ, false, nat_eq, List, if◌then◌else◌}
use Rattle.chunk_tags.specs.declared.tunables.Tunables.{Tunables}
use Rattle.arena_rules.specs.PlainArena.{Plain, IsSound, is_main, empty_main}
use Rattle.arena_rules.specs.MainPlaces.{IsPlaced}
use Rattle.arena_rules.specs.Rules.{heap_windows_of}
use Rattle.arena_growth.specs.FirstHeap.{closed_arena}
use Rattle.arena_core.specs.declared.arena.Arena.{Arena}
use Rattle.arena_core.specs.Journal.{Recorded}
use Rattle.arena_core.specs.Replay.{IsReplay}

-- what an arena is, and the journal of its holds
pub record KeptArena : Type 0 where
  pub arena : Plain
  pub journal : List Recorded

abbrev pub with_journal : Plain → List Recorded → KeptArena
with_journal arena journal = record { arena = arena; journal = journal }

abbrev pub kept_of : {M : Type 0} → (M → Plain) → Arena M → KeptArena
kept_of plain a = with_journal (plain a.ground.value) a.journal.items

-- the arena with a number, before its first entry
abbrev pub new_arena : Tunables → ℕ → Plain
new_arena t a = if nat_eq a 0 then empty_main else closed_arena t a

-- An arena as it always is between two holds: it has its number, is sound, lies in its windows, and is what the replay of its
-- journal gives.
pub record IsKept (t : Tunables) (n : ℕ) (k : KeptArena) : Type 0 where
  pub number : k.arena.number ≡ n
  pub sound : IsSound k.arena
  pub placed : IsPlaced k.arena
  pub heaps : is_main k.arena ≡ false → k.arena.windows ≡ heap_windows_of t
  pub replays : IsReplay t (new_arena t n) k.journal k.arena
