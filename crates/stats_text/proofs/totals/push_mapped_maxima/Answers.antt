use Rattle.std.proofs.Common.{append_assoc}
use Rattle.stats_text.specs.Totals.{mapped_maxima}
use Rattle.stats_text.proofs.totals.push_mapped_maxima.Goals as goal

pub returns-clause-ok : goal.returns-clause-ok
unfolding mapped_maxima
returns-clause-ok c =
    let written = rw c.in_ok-push_total.ensures.ok at c.push_total-2.ensures.ok in
    simp append_assoc at written
