use Rattle.arena_ground.proofs.Keeping.{held}
use Rattle.arena_ground.proofs.Moving.{own_tile}
use Rattle.arena_ground.proofs.ground.GroundMoves.behind.Goals as goal

pub behind-requires-clause-tile : goal.behind-requires-clause-tile
behind-requires-clause-tile c =
    let g = held _ _ _ _ _ c.self.invariant.ground c.self.view_is c.requires.sound in
    own_tile _ _ _ _ c.args.c g (rw (← c.self.view_is) at c.requires.own)
