use Rattle.std.proofs.Common.{sym, subst}
use Rattle.arena_rules.specs.PlainArena.{IsSound}
use Rattle.arena_tests.proofs.HeapScenes.{sound_heaps}
use Rattle.arena_tests.proofs.ground_tests.free_the_rest.Goals as goal

pub shelve-requires-clause-sound : goal.shelve-requires-clause-sound
shelve-requires-clause-sound c = subst IsSound (sym c.requires) sound_heaps
