use Rattle.std.proofs.Common.{◌≡◌, refl, arith, sym, ap, ◌∙◌, subst}
use Rattle.arena_rules.specs.PlainArena.{IsSound, empty_main}
use Rattle.arena_rules.specs.Growth.{break_taken}
use Rattle.arena_rules.proofs.MainPlaces.{break_grown, empty_placed}
use Rattle.arena_rules.proofs.Moved.{sound_empty}
use Rattle.arena_tests.proofs.trim_tests.grown.Goals as goal

pub make_break_room-requires-clause-main : goal.make_break_room-requires-clause-main
make_break_room-requires-clause-main c = rw c.in_ok-g.ensures refl

pub make_break_room-requires-clause-window : goal.make_break_room-requires-clause-window
make_break_room-requires-clause-window c = rw c.in_ok-g.ensures (omega arith)

pub take_break-rest-requires-clause-sound : goal.take_break-rest-requires-clause-sound
take_break-rest-requires-clause-sound c = rw (c.make_break_room.ensures.arena, c.in_ok-g.ensures) sound_empty

pub take_break-rest-requires-clause-main : goal.take_break-rest-requires-clause-main
take_break-rest-requires-clause-main c = rw (c.make_break_room.ensures.arena, c.in_ok-g.ensures) refl

pub returns : goal.returns
returns c =
    let is : c.take_break-rest.new.self.arena ≡ break_taken empty_main c.args.growth =
    c.take_break-rest.ensures.arena ∙ ap (λ a. break_taken a c.args.growth) (c.make_break_room.ensures.arena ∙ c.in_ok-g.ensures) in
    subst IsSound (sym is) (break_grown empty_main c.args.growth sound_empty empty_placed c.requires.some c.requires.pages (omega arith)).moved.sound
