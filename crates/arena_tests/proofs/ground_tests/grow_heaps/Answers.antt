use Rattle.std.proofs.Common.{sym, ◌∙◌, subst}
use Rattle.arena_rules.specs.PlainArena.{IsSound}
use Rattle.arena_tests.proofs.HeapScenes.{sound_heap}
use Rattle.arena_tests.proofs.ground_tests.grow_heaps.Goals as goal

pub extend_heap-requires-clause-sound : goal.extend_heap-requires-clause-sound
extend_heap-requires-clause-sound c = subst IsSound (sym (c.make_extension_room.ensures.arena ∙ c.requires)) sound_heap
