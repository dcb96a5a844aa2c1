use Rattle.std.proofs.Common.{refl, arith}
use Rattle.fast_bins.proofs.PlainSteps.{kept_pop}
use Rattle.fast_bins.proofs.plain.PlainFastFastPort.pop.Goals as goal

pub returns : goal.returns
returns c =
    rw (← c.self.view_is, ← c.from.ensures)
    (kept_pop c.self.inside.flag c.self.inside.bins.items c.from.result c.in-Some.stack.now c.pop.new.self c.pop.result (omega (arith, c.in-Some.ensures.variant.0 refl, c.self.inside.bins.ok.0)) c.in-Some.ensures.value c.pop.ensures.front (record { bin = c.pop.ensures.bin; room = c.pop.ensures.room; within = c.pop.ensures.within }))
