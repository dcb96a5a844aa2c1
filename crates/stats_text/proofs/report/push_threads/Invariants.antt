use Rattle.std.proofs.Common.{◌≡◌, ◌≤◌, ◌++◌, take}
use Rattle.std.specs.Prelude.{vec_capacity}
use Rattle.stats_text.specs.Report.{thread_lines}
use Rattle.stats_text.proofs.report.push_threads.Given as goal

abbrev pub invariant-loop-thread : goal.invariant-loop-thread
invariant-loop-thread l = record {
  text : l.out.items ≡ l.initial.out.items ++ thread_lines (take l.thread-index l.threads);
  room : vec_capacity l.initial.out ≤ vec_capacity l.out;
}
