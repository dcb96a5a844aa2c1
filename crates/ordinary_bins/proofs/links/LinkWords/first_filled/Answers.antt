use Rattle.ordinary_bins.proofs.Search.{first_is}
use Rattle.ordinary_bins.proofs.Steps.{spells}
use Rattle.ordinary_bins.proofs.links.LinkWords.first_filled.Goals as goal

pub returns : goal.returns
returns c =
    first_is (spells {nodes = c.self.inside.nodes} {v = c.args.self.now} (record { linked = c.self.invariant; view = c.self.view_is }))
    c.args.bin c.requires c.first_filled.result c.first_filled.ensures.filled c.first_filled.ensures.before c.first_filled.ensures.none
