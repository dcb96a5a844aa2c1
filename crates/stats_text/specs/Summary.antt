-- The summary of a run: how many lines had which answers, and the totals (this project's own).
use Rattle.std.specs.Prelude.{ℕ, List, ◌++◌, codes}
use Rattle.stats_text.specs.declared.answer_counts.Counts.{Counts}
use Rattle.stats_text.specs.AnswerCounts.{count_lines}
use Rattle.stats_text.specs.Views.{Shown}
use Rattle.stats_text.specs.Totals.{totals_of}

-- the summary: its head, the counts, and the five last lines of a report
unfoldable pub summary_of : Counts → Shown → List ℕ
summary_of c s = codes "ptmsummary 1\n" ++ count_lines c ++ totals_of s
