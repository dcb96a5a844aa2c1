use Rattle.std.proofs.Common.{take}
use Rattle.stats_text.specs.Totals.{AreWithinSystem}
use Rattle.text_tests.proofs.report_tests.are_within.Given as goal

abbrev pub invariant-loop-arena : goal.invariant-loop-arena
invariant-loop-arena l = AreWithinSystem (take l.arena-index l.arenas)
