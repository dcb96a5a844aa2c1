use Rattle.std.proofs.Common.{arith}
use Rattle.ordinary_bins.proofs.CodeLaws.{node_of-own, near_back, far_back}
use Rattle.ordinary_bins.proofs.nodes.Nodes.code_of.Goals as goal

pub returns-then-node-lt-BINS : goal.returns-then-node-lt-BINS
returns-then-node-lt-BINS c = node_of-own _ _ c.args.node (omega arith)

pub returns-then-word-lt-NEAR_WORDS : goal.returns-then-word-lt-NEAR_WORDS
returns-then-word-lt-NEAR_WORDS c =
    let is_open = c.requires.word (omega arith) in
    near_back _ _ _ c.args.node (rw c.args.self.now.coded.base_is at is_open.place) (omega arith) (omega arith)

pub returns-else-word-lt-NEAR_WORDS : goal.returns-else-word-lt-NEAR_WORDS
returns-else-word-lt-NEAR_WORDS c =
    let is_open = c.requires.word (omega arith) in
    far_back _ _ _ c.args.node (rw c.args.self.now.coded.base_is at is_open.place) (omega arith) ((c.args.self.now.coded.codes c.args.node is_open).room (omega arith)).0
