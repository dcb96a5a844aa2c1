use Rattle.std.proofs.Common.{sym, ap, ◌∙◌, subst}
use Rattle.arena_rules.specs.PlainArena.{Plain, IsSound}
use Rattle.arena_rules.specs.Moves.{cut_from_top}
use Rattle.arena_tests.proofs.GroundScenes.{sound_grown, sound_next}
use Rattle.arena_tests.proofs.ground_tests.join_the_next.Goals as goal

pub cut_top-next-requires-clause-sound : goal.cut_top-next-requires-clause-sound
cut_top-next-requires-clause-sound c = subst IsSound (sym c.requires) sound_grown

pub join_used-requires-clause-sound : goal.join_used-requires-clause-sound
join_used-requires-clause-sound c =
    subst IsSound (sym (c.cut_top-next.ensures.arena ∙ ap (λ (a : Plain). cut_from_top a 32) c.requires)) sound_next
