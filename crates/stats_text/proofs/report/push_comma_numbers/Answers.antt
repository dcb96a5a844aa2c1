use Rattle.std.proofs.Common.{◌++◌}
use Rattle.std.specs.Prelude.{codes, decimal}
use Rattle.stats_text.specs.Report.{comma_numbers}
use Rattle.stats_text.proofs.Rooms.{when_err, lacks_more, kept_more}
use Rattle.stats_text.proofs.report.push_comma_numbers.Goals as goal

pub returns-in_err-push_numbered-clause-full : goal.returns-in_err-push_numbered-clause-full
unfolding comma_numbers
returns-in_err-push_numbered-clause-full c =
    when_err c.from_residual.result (
    lacks_more (λ n. codes "," ++ decimal n) c.args.ns.now c.loop-n.n-index c.from.result _ c.args.out.now c.loop-n.out c.from.ensures
    c.loop-n-test.true
    c.loop-n.invariant.text
    c.loop-n.invariant.room
    c.in_err-push_numbered.ensures.full
    )

pub returns-in_err-push_numbered-clause-kept : goal.returns-in_err-push_numbered-clause-kept
returns-in_err-push_numbered-clause-kept c =
    kept_more c.args.out.now c.loop-n.out c.push_numbered.new.out _ c.loop-n.invariant.text c.loop-n.invariant.room c.in_err-push_numbered.ensures.kept
