use Rattle.std.proofs.Common.{◌∙◌}
use Rattle.fast_bins.proofs.Reversed.{reversed_bin}
use Rattle.fast_bins.proofs.stack.BinStack.gather.Goals as goal

pub returns-clause-bin : goal.returns-clause-bin
returns-clause-bin c =
    let s = c.self.inside in
    rw (← c.self.view_is) (reversed_bin s.own c.len-self-inside.result s.items.items (c.len-self-inside.ensures ∙ s.items.ok.0))
