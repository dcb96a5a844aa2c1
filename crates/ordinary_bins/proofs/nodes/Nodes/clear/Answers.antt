use Rattle.std.proofs.Common.{refl}
use Rattle.ordinary_bins.specs.NodeWords.{no_codes}
use Rattle.ordinary_bins.proofs.NodeLinks.{wrote_word}
use Rattle.ordinary_bins.proofs.nodes.Nodes.clear.Goals as goal

pub returns-clause-links : goal.returns-clause-links
returns-clause-links c = wrote_word c.args.self.now _ _ _ c.requires.chunk refl (c.set.ensures.word no_codes) (record { base = refl; width = refl })
