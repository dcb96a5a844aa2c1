use Rattle.fast_bins.proofs.PlainSteps.{kept_push}
use Rattle.fast_bins.proofs.Reserving.{kept_below}
use Rattle.std.proofs.Common.{arith}
use Rattle.fast_bins.proofs.plain.PlainFastFastPort.push.Goals as goal

pub returns : goal.returns
returns c =
    let bins = c.self.inside.bins.items in
    let in_list = kept_below bins c.args.bin c.requires.bin c.self.invariant.count (rw (← c.self.view_is) at c.requires.room) in
    rw (← c.self.view_is, ← c.from.ensures)
    (kept_push c.self.inside.flag bins c.from.result c.args.at c.index_mut-stack.result.now c.push.new.self (omega (arith, c.from.ensures, in_list)) c.index_mut-stack.ensures.value c.push.ensures)
