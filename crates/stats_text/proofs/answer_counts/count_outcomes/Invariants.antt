use Rattle.std.proofs.Common.{◌≡◌, take}
use Rattle.stats_text.specs.AnswerCounts.{counts_of}
use Rattle.stats_text.proofs.answer_counts.count_outcomes.Given as goal

abbrev pub invariant-loop-said : goal.invariant-loop-said
invariant-loop-said l = l.counts ≡ counts_of (take l.said-index l.outcomes)
