use Rattle.std.proofs.Common.{ap, ◌∙◌}
use Rattle.arena_rules.specs.Growth.{noted}
use Rattle.arena_ground.specs.Grounds.{GroundView, bins_at}
use Rattle.arena_ground.proofs.Topping.{noted_kept}
use Rattle.arena_ground.proofs.ground.GroundMoves.note_most.Goals as goal

pub invariant_of-self : goal.invariant_of-self
invariant_of-self c = record {
  ground = noted_kept _ _ _ _ _ c.self.invariant.ground c.note_most.ensures.top c.note_most.ensures.closed (c.note_most.ensures.arena c.self.inside.tiles.tiles (bins_at c.self.inside.tiles.tiles c.self.inside.links.lists) c.self.inside.last);
  firsts = c.self.invariant.firsts;
}

pub returns : goal.returns
returns c =
    c.note_most.ensures.arena c.self.inside.tiles.tiles (bins_at c.self.inside.tiles.tiles c.self.inside.links.lists) c.self.inside.last
    ∙ ap (λ (v : GroundView). noted v.arena) c.self.view_is
