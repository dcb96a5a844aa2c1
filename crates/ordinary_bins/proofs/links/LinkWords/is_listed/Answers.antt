use Rattle.ordinary_bins.proofs.Spelling.{listed_read}
use Rattle.ordinary_bins.proofs.Steps.{spells}
use Rattle.ordinary_bins.proofs.links.LinkWords.is_listed.Goals as goal

pub returns : goal.returns
returns c = let r = listed_read (spells {nodes = c.self.inside.nodes} {v = c.args.self.now} (record { linked = c.self.invariant; view = c.self.view_is })) c.args.at c.requires.high in cc
