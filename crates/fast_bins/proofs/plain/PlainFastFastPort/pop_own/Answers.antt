use Rattle.std.proofs.Common.{refl, arith}
use Rattle.fast_bins.proofs.PlainSteps.{kept_pop_own}
use Rattle.fast_bins.proofs.plain.PlainFastFastPort.pop_own.Goals as goal

pub returns : goal.returns
returns c =
    rw (← c.self.view_is, ← c.from.ensures)
    (kept_pop_own c.self.inside.flag c.self.inside.bins.items c.from.result c.in-Some.stack.now c.pop_own.new.self c.pop_own.result (omega (arith, c.in-Some.ensures.variant.0 refl, c.self.inside.bins.ok.0)) c.in-Some.ensures.value c.pop_own.ensures.front (record { bin = c.pop_own.ensures.bin; room = c.pop_own.ensures.room; within = c.pop_own.ensures.within }))
