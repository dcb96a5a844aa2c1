use Rattle.ordinary_bins.proofs.Steps.{spells}
use Rattle.ordinary_bins.proofs.links.LinkWords.laws.Goals as goal

pub returns : goal.returns
returns c =
    let h = spells {nodes = c.self.inside.nodes} {v = c.args.self.now} (record { linked = c.self.invariant; view = c.self.view_is }) in
    record { width = h.width; unused = h.unused; once = h.once; words = λ n k. ((h.places n k).high, (h.places n k).word) }
