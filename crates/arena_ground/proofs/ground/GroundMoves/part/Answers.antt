use Rattle.std.proofs.Common.{ap, ◌∙◌, refl}
use Rattle.arena_rules.specs.Moves.{parted}
use Rattle.arena_ground.specs.Grounds.{GroundView}
use Rattle.arena_ground.proofs.Firsts.{still}
use Rattle.arena_ground.proofs.Keeping.{held}
use Rattle.arena_ground.proofs.Moving.{own_tile, part_done}
use Rattle.arena_ground.proofs.ground.GroundMoves.part.Goals as goal

pub part-requires-clause-tile : goal.part-requires-clause-tile
part-requires-clause-tile c =
    let g = held _ _ _ _ _ c.self.invariant.ground c.self.view_is c.requires.sound in
    own_tile _ _ _ _ c.args.c g (rw (← c.self.view_is) at c.requires.own)

pub invariant_of-self : goal.invariant_of-self
invariant_of-self c =
    let g = held _ _ _ _ _ c.self.invariant.ground c.self.view_is c.requires.sound in
    rw c.part.ensures.tiles (still (part_done _ _ _ _ c.args.c c.args.nb g (rw (← c.self.view_is) at c.requires.own) c.requires.first c.requires.rest) refl c.self.invariant.firsts)

pub returns-clause-arena : goal.returns-clause-arena
returns-clause-arena c =
    let g = held _ _ _ _ _ c.self.invariant.ground c.self.view_is c.requires.sound in
    rw c.part.ensures.tiles (part_done _ _ _ _ c.args.c c.args.nb g (rw (← c.self.view_is) at c.requires.own) c.requires.first c.requires.rest).is
    ∙ ap (λ (v : GroundView). parted v.arena c.args.c c.args.nb) c.self.view_is
