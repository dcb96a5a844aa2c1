use Rattle.std.proofs.Common.{arith}
use Rattle.stats_text.proofs.Sums.{used_so_far, used_with_next}
use Rattle.stats_text.proofs.totals.used_bytes.Goals as goal

pub overflow_add-used : goal.overflow_add-used
overflow_add-used c = omega (arith, c.loop-arena.invariant, used_with_next c.args.arenas.now c.loop-arena.arena-index c.arena-item.result c.arena-item.is c.loop-arena-test.true)

pub returns-clause-within : goal.returns-clause-within
returns-clause-within c = omega (arith, c.loop-arena.invariant, used_so_far c.args.arenas.now c.loop-arena.arena-index)
