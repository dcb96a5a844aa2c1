use Rattle.std.proofs.Common.{ap, subst}
use Rattle.std.specs.Prelude.{is_some, IsSome}
use Rattle.chunk_tags.specs.Tiles.{top_of}
use Rattle.arena_rules.proofs.HeapTiles.{last_top}
use Rattle.arena_ground.specs.Grounds.{GroundView, arena_with}
use Rattle.arena_ground.proofs.ground.GroundMoves.top_law.Goals as goal

pub returns : goal.returns
returns c = λ other.
    let a = arena_with c.self.inside.regions c.self.inside.tiles c.self.inside.links c.self.inside.last in
    let top = last_top a c.self.inside.regions.closed.items (c.self.invariant.ground.placed.other (rw (← c.self.view_is) at other)) in
    let some : IsSome (top_of a.tiles) = ap is_some top.top in
    subst (λ (v : GroundView). IsSome (top_of v.arena.tiles)) c.self.view_is some
