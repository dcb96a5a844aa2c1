use Rattle.std.proofs.Common.{refl}
use Rattle.ordinary_bins.specs.NodeWords.{codes_at}
use Rattle.ordinary_bins.proofs.nodes.Nodes.open.Goals as goal

pub returns-then-has_codes-clause-links : goal.returns-then-has_codes-clause-links
unfolding codes_at
returns-then-has_codes-clause-links c = λ n. rw c.open.ensures.words refl
