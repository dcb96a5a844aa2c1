use Rattle.std.proofs.Common.{refl}
use Rattle.stats_text.specs.Report.{thread_lines, thread_line}
use Rattle.stats_text.proofs.Rooms.{when_err, lacks_more, kept_more}
use Rattle.stats_text.proofs.report.push_threads.Goals as goal

pub returns-in_err-push_thread-clause-full : goal.returns-in_err-push_thread-clause-full
unfolding thread_lines
returns-in_err-push_thread-clause-full c =
    when_err c.from_residual.result (
    lacks_more thread_line c.args.threads.now c.loop-thread.thread-index _ _ c.args.out.now c.loop-thread.out refl
    c.loop-thread-test.true
    c.loop-thread.invariant.text
    c.loop-thread.invariant.room
    c.in_err-push_thread.ensures.full
    )

pub returns-in_err-push_thread-clause-kept : goal.returns-in_err-push_thread-clause-kept
returns-in_err-push_thread-clause-kept c =
    kept_more c.args.out.now c.loop-thread.out c.push_thread.new.out _ c.loop-thread.invariant.text c.loop-thread.invariant.room c.in_err-push_thread.ensures.kept
