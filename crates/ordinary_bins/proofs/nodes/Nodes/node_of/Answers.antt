use Rattle.std.proofs.Common.{sym, ◌∙◌, arith}
use Rattle.ordinary_bins.proofs.CodeLaws.{node_of-own, node_of-near, node_of-far}
use Rattle.ordinary_bins.proofs.nodes.Nodes.node_of.Goals as goal

pub returns-then-code-lt-BINS : goal.returns-then-code-lt-BINS
returns-then-code-lt-BINS c = c.from-code.ensures ∙ sym (node_of-own _ _ c.args.code (omega arith))

pub returns-then-code-lt-FAR : goal.returns-then-code-lt-FAR
returns-then-code-lt-FAR c = omega (arith, c.from-code.ensures, node_of-near c.args.self.now.base c.args.self.now.width c.args.code (omega arith) (omega arith))

pub returns-else-code-lt-FAR : goal.returns-else-code-lt-FAR
returns-else-code-lt-FAR c = omega (arith, c.from-code.ensures, node_of-far c.args.self.now.base c.args.self.now.width c.args.code (omega arith))
