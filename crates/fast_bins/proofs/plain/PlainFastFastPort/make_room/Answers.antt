use Rattle.fast_bins.proofs.Reserving.{on_err}
use Rattle.fast_bins.proofs.plain.PlainFastFastPort.make_room.Goals as goal

pub returns-in_err-make_room_in-clause-full : goal.returns-in_err-make_room_in-clause-full
returns-in_err-make_room_in-clause-full c =
    rw (← c.self.view_is) (on_err _ c.from_residual.result c.from_residual.ensures.0 (c.in_err-make_room_in.ensures.full, c.in_err-make_room_in.ensures.still))
