use Rattle.std.proofs.Common.{sym, subst}
use Rattle.arena_rules.specs.PlainArena.{IsSound}
use Rattle.arena_tests.proofs.HeapScenes.{sound_again}
use Rattle.arena_tests.proofs.ground_tests.shorten_first.Goals as goal

pub shorten_heap-requires-clause-sound : goal.shorten_heap-requires-clause-sound
shorten_heap-requires-clause-sound c = subst IsSound (sym c.requires) sound_again
