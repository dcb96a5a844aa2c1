use Rattle.std.proofs.Common.{length, arith}
use Rattle.fast_bins.proofs.Reserving.{roomier_more, room_more, gains, full_at, full_now, on_err}
use Rattle.fast_bins.proofs.plain.reserve_each.Goals as goal

pub returns-in_err-make_room-clause-roomier : goal.returns-in_err-make_room-clause-roomier
returns-in_err-make_room-clause-roomier c =
    let b = c.make_room.new.self in
    roomier_more c.args.bins.now c.loop-b.bins c.loop-b.b-index b c.loop-b.invariant.0
    (gains c.loop-b.bins c.loop-b.b-index c.b-item.result b (omega arith) c.make_room.ensures.bin c.make_room.ensures.more)

pub loop-b-preserved : goal.loop-b-preserved
loop-b-preserved c =
    let b = c.make_room.new.self in (
      roomier_more c.args.bins.now c.loop-b.bins c.loop-b.b-index b c.loop-b.invariant.0
          (gains c.loop-b.bins c.loop-b.b-index c.b-item.result b (omega arith) c.make_room.ensures.bin c.make_room.ensures.more),
      room_more c.loop-b.bins c.loop-b.b-index b c.loop-b.invariant.1 (omega arith) c.in_ok-make_room.ensures.room,
    )

pub returns-in_err-make_room-clause-full : goal.returns-in_err-make_room-clause-full
returns-in_err-make_room-clause-full c =
    on_err _ c.from_residual.result c.from_residual.ensures.0 (full_at c.args.bins.now c.loop-b.bins c.loop-b.b-index c.b-item.result c.loop-b.invariant.0 (omega arith) (omega arith) c.in_err-make_room.ensures.full)

pub returns-in_err-make_room-clause-still : goal.returns-in_err-make_room-clause-still
returns-in_err-make_room-clause-still c =
    on_err _ c.from_residual.result c.from_residual.ensures.0 (full_now (length c.args.bins.now) c.loop-b.bins c.loop-b.b-index c.make_room.new.self (omega arith) (omega arith) c.in_err-make_room.ensures.still)
