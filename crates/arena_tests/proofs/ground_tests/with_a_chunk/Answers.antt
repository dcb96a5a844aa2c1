use Rattle.std.proofs.Common.{◌≡◌, IsTrue, refl, arith, sym, ap, ◌∙◌, subst}
use Rattle.arena_rules.specs.PlainArena.{IsSound, empty_main}
use Rattle.arena_rules.specs.Growth.{break_taken, has_top_for}
use Rattle.arena_rules.proofs.Moved.{sound_empty}
use Rattle.arena_tests.proofs.GroundScenes.{first_growth}
use Rattle.arena_tests.proofs.ground_tests.with_a_chunk.Goals as goal

pub make_break_room-requires-clause-main : goal.make_break_room-requires-clause-main
make_break_room-requires-clause-main c = rw c.in_ok-ground.ensures refl

pub make_break_room-requires-clause-window : goal.make_break_room-requires-clause-window
make_break_room-requires-clause-window c = rw c.in_ok-ground.ensures (omega arith)

pub take_break-rest-requires-clause-sound : goal.take_break-rest-requires-clause-sound
take_break-rest-requires-clause-sound c = rw (c.make_break_room.ensures.arena, c.in_ok-ground.ensures) sound_empty

pub take_break-rest-requires-clause-main : goal.take_break-rest-requires-clause-main
take_break-rest-requires-clause-main c = rw (c.make_break_room.ensures.arena, c.in_ok-ground.ensures) refl

pub cut_top-at-requires-clause-sound : goal.cut_top-at-requires-clause-sound
cut_top-at-requires-clause-sound c =
    let is : c.take_break-rest.new.self.arena ≡ break_taken empty_main 135168 =
    c.take_break-rest.ensures.arena ∙ ap (λ a. break_taken a 135168) (c.make_break_room.ensures.arena ∙ c.in_ok-ground.ensures) in
    subst IsSound (sym is) first_growth

pub cut_top-at-requires-clause-room : goal.cut_top-at-requires-clause-room
cut_top-at-requires-clause-room c =
    let is : c.take_break-rest.new.self.arena ≡ break_taken empty_main 135168 =
    c.take_break-rest.ensures.arena ∙ ap (λ a. break_taken a 135168) (c.make_break_room.ensures.arena ∙ c.in_ok-ground.ensures) in
    subst (λ a. IsTrue (has_top_for a 32)) (sym is) refl
