use Rattle.ordinary_bins.proofs.Reading.{first_read}
use Rattle.ordinary_bins.proofs.Steps.{spells}
use Rattle.ordinary_bins.proofs.links.LinkWords.first.Goals as goal

pub returns : goal.returns
returns c = let r = first_read (spells {nodes = c.self.inside.nodes} {v = c.args.self.now} (record { linked = c.self.invariant; view = c.self.view_is })) c.args.bin c.requires in cc
