use Rattle.ordinary_bins.proofs.Marking.{filled_by, empty_before, all_empty}
use Rattle.ordinary_bins.proofs.nodes.Nodes.first_filled.Goals as goal

pub returns-clause-filled : goal.returns-clause-filled
returns-clause-filled c = filled_by c.args.self.now c.args.bin c.first_from.result c.first_from.ensures.set

pub returns-clause-before : goal.returns-clause-before
returns-clause-before c = empty_before c.args.self.now c.args.bin c.first_from.result c.first_from.ensures.set c.first_from.ensures.before

pub returns-clause-none : goal.returns-clause-none
returns-clause-none c = all_empty c.args.self.now c.args.bin c.first_from.result c.first_from.ensures.none
