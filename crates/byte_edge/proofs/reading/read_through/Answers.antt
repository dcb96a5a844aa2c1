use Rattle.std.proofs.Common.{arith, length, length-append, ap}
use Rattle.byte_edge.proofs.ReadLoop.{one_more}
use Rattle.byte_edge.proofs.reading.read_through.Goals as goal

pub loop-source-preserved : goal.loop-source-preserved
loop-source-preserved g c = record {
  so_far = rw (c.in_ok-append-in-Got.ensures.ok, c.split_at.ensures.front)
      (one_more _ _ _ _ _ _ _ c.loop-source.invariant.so_far c.in-Got.ensures);
  bound = omega (
    arith,
    ap length c.in_ok-append-in-Got.ensures.ok,
    ap length c.split_at.ensures.front,
    length-append c.loop-source.bytes.items c.split_at.result.0.now,
    c.in-Got.ensures.fits,
    c.loop-source-test.true,
    c.loop-source.invariant.room,
    c.requires.fits,
  );
  room = omega (arith, c.loop-source.invariant.room);
}
