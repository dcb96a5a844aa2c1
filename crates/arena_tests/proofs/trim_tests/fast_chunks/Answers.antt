use Rattle.std.proofs.Common.{arith}
use Rattle.chunk_tags.specs.BinOrder.{fast_chunk}
use Rattle.arena_tests.proofs.trim_tests.fast_chunks.Goals as goal

pub push-requires-clause-new : goal.push-requires-clause-new
push-requires-clause-new g c = c.no_fast_chunks-port.ensures (fast_chunk 0 93824992251904)

pub push-requires-clause-backed : goal.push-requires-clause-backed
push-requires-clause-backed g c = record { sound = c.requires; used = λ e. omega (arith, c.no_fast_chunks-port.ensures e) }

pub push-requires-2-clause-new : goal.push-requires-2-clause-new
push-requires-2-clause-new g c = omega (arith, c.no_fast_chunks-port.ensures (fast_chunk 1 93824992251936), c.in_ok-push.ensures.stock (fast_chunk 1 93824992251936))

pub push-requires-2-clause-backed : goal.push-requires-2-clause-backed
push-requires-2-clause-backed g c = c.in_ok-push.ensures.backed

pub push-requires-3-clause-new : goal.push-requires-3-clause-new
push-requires-3-clause-new g c = omega (arith, c.no_fast_chunks-port.ensures (fast_chunk 0 93824992252048), c.in_ok-push.ensures.stock (fast_chunk 0 93824992252048), c.in_ok-push-2.ensures.stock (fast_chunk 0 93824992252048))

pub push-requires-3-clause-backed : goal.push-requires-3-clause-backed
push-requires-3-clause-backed g c = c.in_ok-push-2.ensures.backed

pub push-requires-4-clause-new : goal.push-requires-4-clause-new
push-requires-4-clause-new g c = omega (arith, c.no_fast_chunks-port.ensures (fast_chunk 1 93824992252080), c.in_ok-push.ensures.stock (fast_chunk 1 93824992252080), c.in_ok-push-2.ensures.stock (fast_chunk 1 93824992252080), c.in_ok-push-3.ensures.stock (fast_chunk 1 93824992252080))

pub push-requires-4-clause-backed : goal.push-requires-4-clause-backed
push-requires-4-clause-backed g c = c.in_ok-push-3.ensures.backed

pub push-requires-5-clause-new : goal.push-requires-5-clause-new
push-requires-5-clause-new g c = omega (arith, c.no_fast_chunks-port.ensures (fast_chunk 1 93824992252192), c.in_ok-push.ensures.stock (fast_chunk 1 93824992252192), c.in_ok-push-2.ensures.stock (fast_chunk 1 93824992252192), c.in_ok-push-3.ensures.stock (fast_chunk 1 93824992252192), c.in_ok-push-4.ensures.stock (fast_chunk 1 93824992252192))

pub push-requires-5-clause-backed : goal.push-requires-5-clause-backed
push-requires-5-clause-backed g c = c.in_ok-push-4.ensures.backed

pub returns : goal.returns
returns g c = c.in_ok-push-5.ensures.backed
