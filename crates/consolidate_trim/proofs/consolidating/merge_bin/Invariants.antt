use Rattle.std.proofs.Common.{length}
use Rattle.consolidate_trim.specs.FastHolds.{fast_hold}
use Rattle.consolidate_trim.proofs.Emptying.{IsMerging}
use Rattle.consolidate_trim.proofs.Fewer.{used_of}
use Rattle.consolidate_trim.proofs.consolidating.merge_bin.Given as goal

abbrev pub invariant-loop-port : goal.invariant-loop-port
invariant-loop-port g l =
    IsMerging g.P.FastPort.fast l.bin (fast_hold (g.M.Moves.plain l.fn.g) l.fn.port l.fn.said.items)
    (fast_hold (g.M.Moves.plain l.g) l.port l.said.items)

abbrev pub decreases-loop-port : goal.decreases-loop-port
decreases-loop-port g l = length (used_of (g.M.Moves.plain l.g))
