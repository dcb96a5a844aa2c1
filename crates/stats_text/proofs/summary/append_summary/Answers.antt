use Rattle.std.proofs.Common.{append_assoc}
use Rattle.stats_text.specs.Summary.{summary_of}
use Rattle.stats_text.proofs.summary.append_summary.Goals as goal

pub returns-clause-ok : goal.returns-clause-ok
unfolding summary_of
returns-clause-ok c =
    let written = rw (c.in_ok-push_counts.ensures.ok, c.in_ok-push_text.ensures.ok) at c.append_totals.ensures.ok in
    simp append_assoc (simp append_assoc at written)
