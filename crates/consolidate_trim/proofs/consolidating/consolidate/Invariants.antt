use Rattle.consolidate_trim.specs.FastHolds.{fast_hold}
use Rattle.consolidate_trim.proofs.Emptying.{IsConsolidating}
use Rattle.consolidate_trim.proofs.consolidating.consolidate.Given as goal

abbrev pub invariant-loop-bin : goal.invariant-loop-bin
invariant-loop-bin g l =
    IsConsolidating g.P.FastPort.fast l.bin (fast_hold (g.M.Moves.plain l.fn.g) l.fn.port l.fn.said.items)
    (fast_hold (g.M.Moves.plain l.g) l.port l.said.items)
