use Rattle.std.proofs.Common.{◌+◌, ap, ◌∙◌, arith, refl}
use Rattle.arena_rules.specs.Moves.{hand}
use Rattle.arena_rules.specs.Resize.{joined_with}
use Rattle.heap_top.proofs.TopLaws.{pair_below}
use Rattle.arena_ground.specs.Grounds.{GroundView}
use Rattle.arena_ground.proofs.Firsts.{still}
use Rattle.arena_ground.proofs.Keeping.{ground_below, held}
use Rattle.arena_ground.proofs.Moving.{own_tile}
use Rattle.arena_ground.proofs.Joining.{used_behind, join_used_done}
use Rattle.arena_ground.proofs.ground.GroundMoves.join_used.Goals as goal

pub fuse-requires-clause-tile : goal.fuse-requires-clause-tile
fuse-requires-clause-tile c =
    let g = held _ _ _ _ _ c.self.invariant.ground c.self.view_is c.requires.sound in
    own_tile _ _ _ _ c.args.c g (rw (← c.self.view_is) at c.requires.own)

pub fuse-requires-clause-behind : goal.fuse-requires-clause-behind
fuse-requires-clause-behind c =
    let g = held _ _ _ _ _ c.self.invariant.ground c.self.view_is c.requires.sound in
    used_behind _ _ _ _ c.args.c c.args.d g (rw (← c.self.view_is) at c.requires.own) (rw (← c.self.view_is) at c.requires.next) c.requires.behind

pub fuse-requires-clause-below : goal.fuse-requires-clause-below
fuse-requires-clause-below c =
    let g = held _ _ _ _ _ c.self.invariant.ground c.self.view_is c.requires.sound in
    pair_below c.self.inside.tiles.tiles _ _ c.args.c.at (ground_below _ _ _ _ c.self.invariant.ground) (own_tile _ _ _ _ c.args.c g (rw (← c.self.view_is) at c.requires.own))
    (used_behind _ _ _ _ c.args.c c.args.d g (rw (← c.self.view_is) at c.requires.own) (rw (← c.self.view_is) at c.requires.next) c.requires.behind)

pub invariant_of-self : goal.invariant_of-self
invariant_of-self c =
    let g = held _ _ _ _ _ c.self.invariant.ground c.self.view_is c.requires.sound in
    rw c.fuse.ensures (still (join_used_done _ _ _ _ c.args.c c.args.d g (rw (← c.self.view_is) at c.requires.own) (rw (← c.self.view_is) at c.requires.next) c.requires.behind) refl c.self.invariant.firsts)

pub overflow_add-size : goal.overflow_add-size
overflow_add-size c =
    let g = held _ _ _ _ _ c.self.invariant.ground c.self.view_is c.requires.sound in
    omega (
      arith,
      pair_below c.self.inside.tiles.tiles _ _ c.args.c.at (ground_below _ _ _ _ c.self.invariant.ground) (own_tile _ _ _ _ c.args.c g (rw (← c.self.view_is) at c.requires.own))
          (used_behind _ _ _ _ c.args.c c.args.d g (rw (← c.self.view_is) at c.requires.own) (rw (← c.self.view_is) at c.requires.next) c.requires.behind),
      c.size.view_is,
      c.more.view_is,
    )

pub returns : goal.returns
returns c =
    let g = held _ _ _ _ _ c.self.invariant.ground c.self.view_is c.requires.sound in
    let is = (join_used_done _ _ _ _ c.args.c c.args.d g (rw (← c.self.view_is) at c.requires.own) (rw (← c.self.view_is) at c.requires.next) c.requires.behind).is in
    rw c.fuse.ensures (λ i. hand (record { at = c.args.c.at; size = c.size.view_is i + c.more.view_is i }) (is i))
    ∙ ap (λ (v : GroundView). joined_with (hand c.args.c v.arena) c.args.d) c.self.view_is
