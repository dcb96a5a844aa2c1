use Rattle.ordinary_bins.proofs.Reading.{last_read}
use Rattle.ordinary_bins.proofs.Steps.{spells}
use Rattle.ordinary_bins.proofs.links.LinkWords.last.Goals as goal

pub returns : goal.returns
returns c = let r = last_read (spells {nodes = c.self.inside.nodes} {v = c.args.self.now} (record { linked = c.self.invariant; view = c.self.view_is })) c.args.bin c.requires in cc
