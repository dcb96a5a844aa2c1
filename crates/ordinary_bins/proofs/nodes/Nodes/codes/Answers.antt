use Rattle.std.proofs.Common.{sym, ◌∙◌, arith}
use Rattle.std.proofs.lemmas.List.{get_or_read}
use Rattle.ordinary_bins.specs.NodeWords.{no_codes}
use Rattle.ordinary_bins.proofs.NodeLinks.{own_codes, word_codes}
use Rattle.ordinary_bins.proofs.nodes.Nodes.codes.Goals as goal

pub returns-then-node-lt-BINS : goal.returns-then-node-lt-BINS
returns-then-node-lt-BINS c =
    get_or_read c.args.self.now.own.items c.args.node _ (omega (arith, c.args.self.now.whole, c.args.self.now.own.ok.0)) c.index.ensures no_codes ∙ sym (own_codes c.args.self.now c.args.node (omega arith))

pub returns-else-node-lt-BINS : goal.returns-else-node-lt-BINS
returns-else-node-lt-BINS c = c.get.ensures no_codes ∙ sym (word_codes c.args.self.now c.args.node (omega arith))
