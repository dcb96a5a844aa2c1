use Rattle.std.proofs.Common.{length}
use Rattle.consolidate_trim.proofs.HeapTrims.{IsDropping}
use Rattle.consolidate_trim.proofs.trimming.drop_heaps.Given as goal

abbrev pub invariant-loop-end : goal.invariant-loop-end
invariant-loop-end g l = IsDropping (g.K.Kernel.port) l.t (g.M.Moves.plain l.initial.g) l.initial.space (g.M.Moves.plain l.g) l.space

abbrev pub decreases-loop-end : goal.decreases-loop-end
decreases-loop-end g l = length (g.M.Moves.plain l.g).tiles
