use Rattle.std.proofs.Common.{sym, subst}
use Rattle.arena_rules.specs.PlainArena.{IsSound}
use Rattle.arena_tests.proofs.HeapScenes.{sound_rest}
use Rattle.arena_tests.proofs.ground_tests.end_of_first.Goals as goal

pub end_before-requires-clause-sound : goal.end_before-requires-clause-sound
end_before-requires-clause-sound c = subst IsSound (sym c.requires) sound_rest
