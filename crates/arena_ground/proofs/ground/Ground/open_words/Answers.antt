use Rattle.std.proofs.Common.{sym, subst}
use Rattle.part_words.proofs.Opening.{IsWithinPart-covers}
use Rattle.arena_ground.specs.Grounds.{HaveFirsts}
use Rattle.arena_ground.proofs.Firsts.{covers_all, opened_both, opened_first}
use Rattle.arena_ground.proofs.Opened.{links_missing, opened_bins, opened_ground, opened_room, tiles_missing}
use Rattle.arena_ground.proofs.ground.Ground.open_words.Goals as goal

pub open-requires : goal.open-requires
open-requires c =
    IsWithinPart-covers _ _ _ _ (covers_all c.self.inside.tiles c.self.inside.links c.self.inside.firsts c.self.invariant.ground.covers c.self.invariant.firsts.wider) (rw (← c.self.view_is) at c.requires.within)

pub invariant_of-self-in_err-open-2 : goal.invariant_of-self-in_err-open-2
invariant_of-self-in_err-open-2 c =
    rw c.in_err-open-2.ensures.err (record {
      ground = c.self.invariant.ground;
      firsts = opened_first _ c.self.inside.firsts c.open.new.self c.args.at c.args.len c.self.invariant.firsts c.open.ensures.lists c.in_ok-open.ensures.extent;
    })

pub invariant_of-self-2 : goal.invariant_of-self-2
invariant_of-self-2 c = record {
  ground = opened_ground _ _ _ _ _ _ c.args.at c.args.len c.open-3.result c.self.invariant.ground c.open-3.ensures.ok c.open-3.ensures.err c.open-2.ensures.lists c.in_ok-open-2.ensures.extent;
  firsts = subst (λ b. HaveFirsts b c.open-2.new.self.extent c.open.new.self) (opened_bins c.self.inside.tiles c.open-3.new.self c.self.inside.links c.open-2.new.self c.args.at c.args.len c.open-3.result c.open-3.ensures.ok c.open-3.ensures.err c.open-2.ensures.lists)
      (opened_both c.self.inside.links.extent c.open-2.new.self.extent c.self.inside.firsts c.open.new.self c.args.at c.args.len c.self.invariant.firsts c.open.ensures.lists c.in_ok-open.ensures.extent c.in_ok-open-2.ensures.extent);
}

pub returns-clause-room : goal.returns-clause-room
returns-clause-room c = opened_room c.self.inside.tiles c.open-3.new.self c.args.at c.args.len c.open-3.result (rw (← c.self.view_is) at c.requires.within) c.open-3.ensures.ok

pub returns-in_err-open-clause-full : goal.returns-in_err-open-clause-full
returns-in_err-open-clause-full c =
    rw (← c.self.view_is) (links_missing c.self.inside.tiles c.self.inside.firsts c.args.at c.args.len c.from_residual.result (covers_all c.self.inside.tiles c.self.inside.links c.self.inside.firsts c.self.invariant.ground.covers c.self.invariant.firsts.wider) (rw (← c.self.view_is) at c.requires.within) c.requires.some c.in_err-open.ensures.full)

pub returns-in_err-open-2-clause-full : goal.returns-in_err-open-2-clause-full
returns-in_err-open-2-clause-full c =
    rw (← c.self.view_is) (links_missing c.self.inside.tiles c.self.inside.links c.args.at c.args.len c.from_residual-in_err-open-2.result c.self.invariant.ground.covers (rw (← c.self.view_is) at c.requires.within) c.requires.some c.in_err-open-2.ensures.full)

pub returns-clause-full : goal.returns-clause-full
returns-clause-full c =
    rw (← c.self.view_is) (tiles_missing c.self.inside.tiles c.open-3.new.self c.args.at c.args.len c.open-3.result (rw (← c.self.view_is) at c.requires.within) c.requires.some c.open-3.ensures.err c.open-3.ensures.full)
