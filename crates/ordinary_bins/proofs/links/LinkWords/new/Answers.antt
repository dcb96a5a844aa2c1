use Rattle.ordinary_bins.proofs.Steps.{new_step}
use Rattle.ordinary_bins.proofs.links.LinkWords.new.Goals as goal

pub invariant_of-result : goal.invariant_of-result
invariant_of-result c = (new_step c.in_ok-nodes.ensures.own).linked

pub returns-clause-lists : goal.returns-clause-lists
returns-clause-lists c = (new_step c.in_ok-nodes.ensures.own).lists_are
