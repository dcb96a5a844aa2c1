use Rattle.std.proofs.Common.{sym, subst}
use Rattle.arena_rules.specs.PlainArena.{IsSound}
use Rattle.arena_tests.proofs.HeapScenes.{sound_rest}
use Rattle.arena_tests.proofs.ground_tests.drop_second.Goals as goal

pub drop_heap-requires-clause-sound : goal.drop_heap-requires-clause-sound
drop_heap-requires-clause-sound c = subst IsSound (sym c.requires) sound_rest
