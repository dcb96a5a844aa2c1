use Rattle.std.proofs.Common.{ap, ◌∙◌, sym}
use Rattle.arena_rules.specs.Growth.{break_taken}
use Rattle.arena_rules.specs.PlainArena.{Plain}
use Rattle.arena_ground.specs.Grounds.{GroundView, bins_at}
use Rattle.arena_ground.proofs.Firsts.{still}
use Rattle.arena_ground.proofs.Keeping.{bare_main, held}
use Rattle.arena_ground.proofs.Topping.{break_done}
use Rattle.arena_ground.proofs.ground.GroundMoves.take_break.Goals as goal

pub take_break-requires-clause-main : goal.take_break-requires-clause-main
take_break-requires-clause-main c = bare_main _ _ _ _ c.self.invariant.ground (rw (← c.self.view_is) at c.requires.main)

pub invariant_of-self : goal.invariant_of-self
invariant_of-self c =
    let g = held _ _ _ _ _ c.self.invariant.ground c.self.view_is c.requires.sound in
    still (break_done _ _ _ _ _ _ c.args.growth g (rw (← c.self.view_is) at c.requires.main) (rw (← c.self.view_is) at c.requires.room)
    (record { arena = c.take_break.ensures.arena (bins_at c.self.inside.tiles.tiles c.self.inside.links.lists) c.self.inside.last; top = c.take_break.ensures.top; extent = c.take_break.ensures.extent; closed = c.take_break.ensures.closed })) (sym (ap (λ (x : Plain). x.bins) (c.take_break.ensures.arena (bins_at c.self.inside.tiles.tiles c.self.inside.links.lists) c.self.inside.last))) c.self.invariant.firsts

pub returns-clause-arena : goal.returns-clause-arena
returns-clause-arena c =
    let g = held _ _ _ _ _ c.self.invariant.ground c.self.view_is c.requires.sound in
    (break_done _ _ _ _ _ _ c.args.growth g (rw (← c.self.view_is) at c.requires.main) (rw (← c.self.view_is) at c.requires.room)
    (record { arena = c.take_break.ensures.arena (bins_at c.self.inside.tiles.tiles c.self.inside.links.lists) c.self.inside.last; top = c.take_break.ensures.top; extent = c.take_break.ensures.extent; closed = c.take_break.ensures.closed })).is
    ∙ ap (λ (v : GroundView). break_taken v.arena c.args.growth) c.self.view_is
