use Rattle.std.proofs.Common.{refl, arith}
use Rattle.ordinary_bins.specs.NodeWords.{no_codes}
use Rattle.ordinary_bins.proofs.NodeLinks.{wrote_own, wrote_word}
use Rattle.ordinary_bins.proofs.Marking.{marks_set}
use Rattle.ordinary_bins.proofs.nodes.Nodes.put.Goals as goal

pub returns-then-node-lt-BINS-clause-links : goal.returns-then-node-lt-BINS-clause-links
returns-then-node-lt-BINS-clause-links c =
    wrote_own c.args.self.now _ _ _ (omega (arith, c.args.self.now.whole, c.args.self.now.own.ok.0)) (omega arith) refl refl (record { base = refl; width = refl })

pub returns-else-node-lt-BINS-clause-links : goal.returns-else-node-lt-BINS-clause-links
returns-else-node-lt-BINS-clause-links c =
    wrote_word c.args.self.now _ _ _ (omega arith) refl (c.set-else-node-lt-BINS.ensures.word no_codes) (record { base = refl; width = refl })

pub invariant_of-self-clause-marks : goal.invariant_of-self-clause-marks
invariant_of-self-clause-marks c =
    marks_set c.args.self.now.map c.set.new.self _ _ c.args.self.now.own.items c.args.node c.node_of-is_filled.result c.args.codes (omega (arith, c.args.self.now.whole, c.args.self.now.own.ok.0)) c.if-node-lt-BINS.true
    c.args.self.now.marks c.node_of-is_filled.ensures c.set.ensures.here c.set.ensures.others
