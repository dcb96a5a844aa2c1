use Rattle.ordinary_bins.proofs.Reading.{beside_read}
use Rattle.ordinary_bins.proofs.Steps.{spells}
use Rattle.ordinary_bins.proofs.links.LinkWords.before.Goals as goal

pub returns : goal.returns
returns c = λ bin front back lt is.
    let r = beside_read (spells {nodes = c.self.inside.nodes} {v = c.args.self.now} (record { linked = c.self.invariant; view = c.self.view_is })) bin lt c.args.at front back is in
    let side = r.1 in
    cc
