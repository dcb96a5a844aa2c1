use Rattle.std.proofs.Common.{refl, arith}
use Rattle.fast_bins.proofs.PlainSteps.{kept_gather}
use Rattle.fast_bins.proofs.plain.PlainFastFastPort.take_all.Goals as goal

pub returns : goal.returns
returns c =
    rw (← c.self.view_is, ← c.from.ensures)
    (kept_gather c.self.inside.flag c.self.inside.bins.items c.from.result c.in-Some.stack.now c.gather.new.self (omega (arith, c.in-Some.ensures.variant.0 refl, c.self.inside.bins.ok.0)) c.in-Some.ensures.value c.gather.ensures.bin c.gather.ensures.room)
