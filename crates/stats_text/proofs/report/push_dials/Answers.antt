use Rattle.std.proofs.Common.{append_assoc}
use Rattle.stats_text.specs.Report.{dials_line}
use Rattle.stats_text.proofs.report.push_dials.Goals as goal

pub returns-clause-ok : goal.returns-clause-ok
unfolding dials_line
returns-clause-ok c =
    let written = rw (c.in_ok-push_numbered-4.ensures.ok, c.in_ok-push_numbered-3.ensures.ok, c.in_ok-push_numbered-2.ensures.ok, c.in_ok-push_numbered.ensures.ok) at c.push_text.ensures.ok in
    simp append_assoc (simp append_assoc at written)
