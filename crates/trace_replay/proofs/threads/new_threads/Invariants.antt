use Rattle.std.proofs.Common.{◌≡◌, length}
use Rattle.trace_replay.specs.Processes.{started_threads}
use Rattle.trace_replay.proofs.threads.new_threads.Given as goal

abbrev pub invariant-loop-kernel : goal.invariant-loop-kernel
invariant-loop-kernel g l = (l.number ≡ length l.yielded) × (l.threads.items ≡ started_threads l.t 0 l.yielded)
