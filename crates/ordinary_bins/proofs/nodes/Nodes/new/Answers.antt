use Rattle.std.proofs.Common.{arith}
use Rattle.ordinary_bins.proofs.NodeLinks.{fresh}
use Rattle.ordinary_bins.proofs.Marking.{fresh_marks}
use Rattle.ordinary_bins.proofs.nodes.Nodes.new.Goals as goal

pub invariant_of-result-clause-marks : goal.invariant_of-result-clause-marks
invariant_of-result-clause-marks c = fresh_marks _ _ _ _ c.new.ensures (λ n lt. c.loop-bin.invariant.1 n (omega arith))

pub returns-clause-own : goal.returns-clause-own
returns-clause-own c = fresh _ _ c.new-2.ensures (λ n lt. c.loop-bin.invariant.1 n (omega arith))
