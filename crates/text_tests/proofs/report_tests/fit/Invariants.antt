use Rattle.std.proofs.Common.{◌≡◌, ◌+◌, take}
use Rattle.stats_text.specs.Totals.{system_bytes_of}
use Rattle.text_tests.proofs.report_tests.fit.Given as goal

abbrev pub invariant-loop-arena : goal.invariant-loop-arena
invariant-loop-arena l = l.all ≡ system_bytes_of (take l.arena-index l.arenas) + l.bytes
