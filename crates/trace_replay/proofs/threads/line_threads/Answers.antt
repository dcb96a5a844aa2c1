use Rattle.std.proofs.Common.{◌≡◌, filter, ap, ◌∙◌, arith}
use Rattle.std.specs.List.{range_with_len}
use Rattle.trace_replay.specs.Views.{has_line, threads_in}
use Rattle.trace_replay.proofs.LineThreads.{thread_taken, thread_passed}
use Rattle.trace_replay.proofs.threads.line_threads.Goals as goal
use Rattle.trace_replay.proofs.threads.line_threads.Goals.{then-marks-from+in_ok-push, else-marks-from}

pub loop-thread-preserved : goal.loop-thread-preserved
loop-thread-preserved c =
    elim c.if-marks-from.branch [
      | then-marks-from+in_ok-push w ↦
          thread_taken c.args.lines.now c.marked-marks.result c.loop-thread.thread c.from.result c.loop-thread.numbers.items c.if-marks-from.numbers.items c.from.ensures c.marked-marks.ensures.marks w.if-marks-from.true
          c.loop-thread.invariant (rw w.numbers-is w.in_ok-push.ensures.items)
      | else-marks-from w ↦
          rw w.numbers-is
          (thread_passed c.args.lines.now c.marked-marks.result c.loop-thread.thread c.from.result c.loop-thread.numbers.items c.from.ensures c.marked-marks.ensures.marks w.if-marks-from.false c.loop-thread.invariant)
    ]

pub returns-clause-numbers : goal.returns-clause-numbers
unfolding threads_in
returns-clause-numbers c =
    let all : c.loop-thread.thread ≡ 64 = omega (arith, c.loop-thread.auto.thread-end, c.loop-thread-test.false) in
    c.loop-thread.invariant ∙ ap (λ n. filter (has_line c.args.lines.now) (range_with_len 0 n)) all
