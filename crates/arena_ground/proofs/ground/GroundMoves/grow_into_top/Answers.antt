use Rattle.std.proofs.Common.{ap, ◌∙◌, sym}
use Rattle.std.proofs.lemmas.Bool.{and_parts, leb-true}
use Rattle.arena_rules.specs.Resize.{grown_into_top}
use Rattle.arena_rules.specs.PlainArena.{Plain}
use Rattle.arena_ground.specs.Grounds.{GroundView, bins_at}
use Rattle.arena_ground.proofs.Firsts.{still}
use Rattle.arena_ground.proofs.Keeping.{ground_below, held}
use Rattle.arena_ground.proofs.Moving.{own_tile}
use Rattle.arena_ground.proofs.Topping.{behind_top, grow_done}
use Rattle.arena_ground.proofs.ground.GroundMoves.grow_into_top.Goals as goal

pub grow_into_top-requires-clause-chunk : goal.grow_into_top-requires-clause-chunk
grow_into_top-requires-clause-chunk c =
    let g = held _ _ _ _ _ c.self.invariant.ground c.self.view_is c.requires.sound in
    own_tile _ _ _ _ c.args.c g (rw (← c.self.view_is) at c.requires.own)

pub grow_into_top-requires-clause-top : goal.grow_into_top-requires-clause-top
grow_into_top-requires-clause-top c =
    let g = held _ _ _ _ _ c.self.invariant.ground c.self.view_is c.requires.sound in
    behind_top _ _ _ _ c.args.c g (rw (← c.self.view_is) at c.requires.own) (and_parts _ _ (rw (← c.self.view_is) at c.requires.room)).0

pub grow_into_top-requires-clause-below : goal.grow_into_top-requires-clause-below
grow_into_top-requires-clause-below c = ground_below _ _ _ _ c.self.invariant.ground

pub grow_into_top-requires-clause-room : goal.grow_into_top-requires-clause-room
grow_into_top-requires-clause-room c = leb-true _ _ (and_parts _ _ (rw (← c.self.view_is) at c.requires.room)).1

pub invariant_of-self : goal.invariant_of-self
invariant_of-self c =
    let g = held _ _ _ _ _ c.self.invariant.ground c.self.view_is c.requires.sound in
    still (grow_done _ _ _ _ _ _ c.args.c c.args.nb g (rw (← c.self.view_is) at c.requires.own) c.requires.chunk (rw (← c.self.view_is) at c.requires.room)
    (record { arena = c.grow_into_top.ensures.arena (bins_at c.self.inside.tiles.tiles c.self.inside.links.lists) c.self.inside.last; top = c.grow_into_top.ensures.top; extent = c.grow_into_top.ensures.extent; closed = c.grow_into_top.ensures.closed })) (sym (ap (λ (x : Plain). x.bins) (c.grow_into_top.ensures.arena (bins_at c.self.inside.tiles.tiles c.self.inside.links.lists) c.self.inside.last))) c.self.invariant.firsts

pub returns : goal.returns
returns c =
    let g = held _ _ _ _ _ c.self.invariant.ground c.self.view_is c.requires.sound in
    (grow_done _ _ _ _ _ _ c.args.c c.args.nb g (rw (← c.self.view_is) at c.requires.own) c.requires.chunk (rw (← c.self.view_is) at c.requires.room)
    (record { arena = c.grow_into_top.ensures.arena (bins_at c.self.inside.tiles.tiles c.self.inside.links.lists) c.self.inside.last; top = c.grow_into_top.ensures.top; extent = c.grow_into_top.ensures.extent; closed = c.grow_into_top.ensures.closed })).is
    ∙ ap (λ (v : GroundView). grown_into_top v.arena c.args.c c.args.nb) c.self.view_is
