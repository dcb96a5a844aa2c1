use Rattle.std.proofs.Common.{ap, ◌∙◌, sym}
use Rattle.arena_rules.specs.Moves.{cut_from_top}
use Rattle.arena_rules.specs.PlainArena.{Plain}
use Rattle.arena_ground.specs.Grounds.{GroundView, bins_at}
use Rattle.arena_ground.proofs.Firsts.{still}
use Rattle.arena_ground.proofs.Keeping.{held}
use Rattle.arena_ground.proofs.Topping.{cut_done}
use Rattle.arena_ground.proofs.ground.GroundMoves.cut_top.Goals as goal

pub invariant_of-self : goal.invariant_of-self
invariant_of-self c =
    let g = held _ _ _ _ _ c.self.invariant.ground c.self.view_is c.requires.sound in
    still (cut_done _ _ _ _ _ _ c.args.nb g c.requires.chunk (rw (← c.self.view_is) at c.requires.room)
    (record { arena = c.cut_top.ensures.arena (bins_at c.self.inside.tiles.tiles c.self.inside.links.lists) c.self.inside.last; top = c.cut_top.ensures.top; extent = c.cut_top.ensures.extent; closed = c.cut_top.ensures.closed })) (sym (ap (λ (x : Plain). x.bins) (c.cut_top.ensures.arena (bins_at c.self.inside.tiles.tiles c.self.inside.links.lists) c.self.inside.last))) c.self.invariant.firsts

pub returns-clause-arena : goal.returns-clause-arena
returns-clause-arena c =
    let g = held _ _ _ _ _ c.self.invariant.ground c.self.view_is c.requires.sound in
    (cut_done _ _ _ _ _ _ c.args.nb g c.requires.chunk (rw (← c.self.view_is) at c.requires.room)
    (record { arena = c.cut_top.ensures.arena (bins_at c.self.inside.tiles.tiles c.self.inside.links.lists) c.self.inside.last; top = c.cut_top.ensures.top; extent = c.cut_top.ensures.extent; closed = c.cut_top.ensures.closed })).is
    ∙ ap (λ (v : GroundView). cut_from_top v.arena c.args.nb) c.self.view_is
