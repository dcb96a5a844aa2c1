use Rattle.std.proofs.Common.{ap, arith}
use Rattle.arena_rules.specs.Moves.{top_size}
use Rattle.arena_rules.proofs.HeapTiles.{last_bounded}
use Rattle.arena_ground.specs.Grounds.{GroundView, arena_with}
use Rattle.arena_ground.proofs.ground.GroundMoves.last_length.Goals as goal

pub returns-clause-top : goal.returns-clause-top
returns-clause-top c =
    let a = arena_with c.self.inside.regions c.self.inside.tiles c.self.inside.links c.self.inside.last in
    let bounded = last_bounded a c.self.inside.regions.closed.items c.self.invariant.ground.known.row (c.self.invariant.ground.placed.other (rw (← c.self.view_is) at c.requires)) in
    omega (arith, c.last_length.ensures, bounded.size, ap (λ (v : GroundView). top_size v.arena) c.self.view_is)
