use Rattle.ordinary_bins.proofs.Reading.{none_read}
use Rattle.ordinary_bins.proofs.Steps.{spells}
use Rattle.ordinary_bins.proofs.links.LinkWords.is_empty.Goals as goal

pub returns : goal.returns
returns c = let r = none_read (spells {nodes = c.self.inside.nodes} {v = c.args.self.now} (record { linked = c.self.invariant; view = c.self.view_is })) c.args.bin c.requires in cc
