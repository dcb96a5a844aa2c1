use Rattle.std.proofs.Common.{length}
use Rattle.byte_edge.proofs.WriteLoop.{IsUnderWay}
use Rattle.byte_edge.proofs.writing.write_text.Given as goal

abbrev pub invariant-loop-rest : goal.invariant-loop-rest
invariant-loop-rest g l = IsUnderWay g.W.Sink.store l.initial.sink l.sink l.text l.rest

abbrev pub decreases-loop-rest : goal.decreases-loop-rest
decreases-loop-rest g l = length l.rest
