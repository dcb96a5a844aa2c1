use Rattle.std.proofs.Common.{◌≡◌, length, take}
use Rattle.trace_replay.proofs.LineThreads.{AreMarks}
use Rattle.trace_replay.proofs.threads.marked.Given as goal

abbrev pub invariant-loop-index : goal.invariant-loop-index
invariant-loop-index l = (length l.marks ≡ 64) × AreMarks l.marks (take l.index l.lines)
