use Rattle.std.proofs.Common.{◌≡◌, sym, ap, ◌∙◌, subst}
use Rattle.arena_rules.specs.PlainArena.{Plain, IsSound, empty_main}
use Rattle.arena_rules.specs.Moves.{cut_from_top}
use Rattle.arena_rules.specs.Growth.{break_taken}
use Rattle.arena_rules.proofs.Moved.{sound_empty}
use Rattle.arena_tests.proofs.GroundScenes.{first_growth, sound_one}
use Rattle.arena_tests.proofs.ground_tests.with_two_chunks.Goals as goal

pub take_break-requires-clause-sound : goal.take_break-requires-clause-sound
take_break-requires-clause-sound c = rw (c.make_break_room.ensures.arena, c.in_ok-ground.ensures) sound_empty

pub cut_top-requires-clause-sound : goal.cut_top-requires-clause-sound
cut_top-requires-clause-sound c =
    let is : c.take_break.new.self.arena ≡ break_taken empty_main 135168 =
    c.take_break.ensures.arena ∙ ap (λ (a : Plain). break_taken a 135168) (c.make_break_room.ensures.arena ∙ c.in_ok-ground.ensures) in
    subst IsSound (sym is) first_growth

pub cut_top-requires-2-clause-sound : goal.cut_top-requires-2-clause-sound
cut_top-requires-2-clause-sound c =
    let is : c.take_break.new.self.arena ≡ break_taken empty_main 135168 =
    c.take_break.ensures.arena ∙ ap (λ (a : Plain). break_taken a 135168) (c.make_break_room.ensures.arena ∙ c.in_ok-ground.ensures) in
    subst IsSound (sym (c.cut_top.ensures.arena ∙ ap (λ (a : Plain). cut_from_top a 32) is)) sound_one
