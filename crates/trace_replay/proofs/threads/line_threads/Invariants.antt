use Rattle.std.proofs.Common.{◌≡◌, filter}
use Rattle.std.specs.List.{range_with_len}
use Rattle.trace_replay.specs.Views.{has_line}
use Rattle.trace_replay.proofs.threads.line_threads.Given as goal

abbrev pub invariant-loop-thread : goal.invariant-loop-thread
invariant-loop-thread l = l.numbers.items ≡ filter (has_line l.lines) (range_with_len 0 l.thread)
