use Rattle.std.proofs.Common.{arith}
use Rattle.chunk_tags.specs.BinOrder.{fast_chunk}
use Rattle.chunk_tests.proofs.fast_tests.with_chains.Goals as goal

pub put-requires-clause-fresh : goal.put-requires-clause-fresh
put-requires-clause-fresh c = c.no_chunks-bins.ensures (fast_chunk 1 16)

pub put-requires-2-clause-fresh : goal.put-requires-2-clause-fresh
put-requires-2-clause-fresh c =
    let k = fast_chunk 1 32 in
    omega (arith, c.no_chunks-bins.ensures k, c.in_ok-put.ensures k)

pub put-requires-3-clause-fresh : goal.put-requires-3-clause-fresh
put-requires-3-clause-fresh c =
    let k = fast_chunk 1 48 in
    omega (arith, c.no_chunks-bins.ensures k, c.in_ok-put.ensures k, c.in_ok-put-2.ensures k, c.take_all.ensures.stock k)

pub put-requires-4-clause-fresh : goal.put-requires-4-clause-fresh
put-requires-4-clause-fresh c =
    let k = fast_chunk 1 64 in
    omega (arith, c.no_chunks-bins.ensures k, c.in_ok-put.ensures k, c.in_ok-put-2.ensures k, c.take_all.ensures.stock k, c.in_ok-put-3.ensures k, c.take_all-2.ensures.stock k)

pub put-requires-5-clause-fresh : goal.put-requires-5-clause-fresh
put-requires-5-clause-fresh c =
    let k = fast_chunk 9 80 in
    omega (arith, c.no_chunks-bins.ensures k, c.in_ok-put.ensures k, c.in_ok-put-2.ensures k, c.take_all.ensures.stock k, c.in_ok-put-3.ensures k, c.take_all-2.ensures.stock k, c.in_ok-put-4.ensures k)
