use Rattle.std.proofs.Common.{ap, ◌∙◌, refl}
use Rattle.arena_rules.specs.Moves.{absorbed}
use Rattle.arena_ground.specs.Grounds.{GroundView, bins_at}
use Rattle.arena_ground.proofs.Firsts.{still}
use Rattle.arena_ground.proofs.Keeping.{ground_below, held}
use Rattle.arena_ground.proofs.Moving.{own_tile}
use Rattle.arena_ground.proofs.Topping.{behind_top, absorb_done}
use Rattle.arena_ground.proofs.ground.GroundMoves.absorb.Goals as goal

pub absorb-requires-clause-chunk : goal.absorb-requires-clause-chunk
absorb-requires-clause-chunk c =
    let g = held _ _ _ _ _ c.self.invariant.ground c.self.view_is c.requires.sound in
    own_tile _ _ _ _ c.args.c g (rw (← c.self.view_is) at c.requires.own)

pub absorb-requires-clause-top : goal.absorb-requires-clause-top
absorb-requires-clause-top c =
    let g = held _ _ _ _ _ c.self.invariant.ground c.self.view_is c.requires.sound in
    behind_top _ _ _ _ c.args.c g (rw (← c.self.view_is) at c.requires.own) (rw (← c.self.view_is) at c.requires.top)

pub invariant_of-self : goal.invariant_of-self
invariant_of-self c =
    let g = held _ _ _ _ _ c.self.invariant.ground c.self.view_is c.requires.sound in
    still (absorb_done _ _ _ _ _ _ c.args.c g (rw (← c.self.view_is) at c.requires.own) (rw (← c.self.view_is) at c.requires.before) (rw (← c.self.view_is) at c.requires.top)
    (record { arena = c.absorb.ensures.arena (bins_at c.self.inside.tiles.tiles c.self.inside.links.lists) c.self.inside.last; top = c.absorb.ensures.top; extent = c.absorb.ensures.extent; closed = c.absorb.ensures.closed })) refl c.self.invariant.firsts

pub returns-clause-arena : goal.returns-clause-arena
returns-clause-arena c =
    let g = held _ _ _ _ _ c.self.invariant.ground c.self.view_is c.requires.sound in
    (absorb_done _ _ _ _ _ _ c.args.c g (rw (← c.self.view_is) at c.requires.own) (rw (← c.self.view_is) at c.requires.before) (rw (← c.self.view_is) at c.requires.top)
    (record { arena = c.absorb.ensures.arena (bins_at c.self.inside.tiles.tiles c.self.inside.links.lists) c.self.inside.last; top = c.absorb.ensures.top; extent = c.absorb.ensures.extent; closed = c.absorb.ensures.closed })).is
    ∙ ap (λ (v : GroundView). absorbed v.arena c.args.c) c.self.view_is

pub absorb-requires-clause-below : goal.absorb-requires-clause-below
absorb-requires-clause-below c = ground_below _ _ _ _ c.self.invariant.ground
