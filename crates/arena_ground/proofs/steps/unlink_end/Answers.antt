use Rattle.arena_ground.proofs.steps.unlink_end.Goals as goal

pub forget-requires-clause-firsts : goal.forget-requires-clause-firsts
forget-requires-clause-firsts c = c.requires.firsts.each

pub forget-requires-clause-wider : goal.forget-requires-clause-wider
forget-requires-clause-wider c = c.requires.firsts.wider

pub returns-in-Some-clause-firsts : goal.returns-in-Some-clause-firsts
returns-in-Some-clause-firsts c = record {
  each = rw c.unlink.ensures.lists c.forget.ensures.firsts;
  wider = rw (c.unlink.ensures.extent, c.forget.ensures.open) c.requires.firsts.wider;
}
