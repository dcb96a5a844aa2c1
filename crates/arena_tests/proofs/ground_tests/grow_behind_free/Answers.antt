use Rattle.std.proofs.Common.{sym, ap, ◌∙◌, subst}
use Rattle.arena_rules.specs.PlainArena.{Plain, IsSound}
use Rattle.arena_rules.specs.Moves.{shelved}
use Rattle.arena_tests.specs.GroundScenes.{first_chunk}
use Rattle.arena_tests.proofs.GroundScenes.{sound_two, sound_free}
use Rattle.arena_tests.proofs.ground_tests.grow_behind_free.Goals as goal

pub shelve-requires-clause-sound : goal.shelve-requires-clause-sound
shelve-requires-clause-sound c = subst IsSound (sym c.requires) sound_two

pub grow_into_top-requires-clause-sound : goal.grow_into_top-requires-clause-sound
grow_into_top-requires-clause-sound c =
    subst IsSound (sym (c.shelve.ensures ∙ ap (λ (a : Plain). shelved a first_chunk) c.requires)) sound_free
