use Rattle.std.proofs.Common.{◌≡◌, ◌≤◌, take}
use Rattle.stats_text.specs.Totals.{idle_bytes_of}
use Rattle.text_tests.proofs.report_tests.are_idle_within.Given as goal

abbrev pub invariant-loop-tile : goal.invariant-loop-tile
invariant-loop-tile l = (l.idle ≡ idle_bytes_of (take l.tile-index l.tiles)) × (l.idle ≤ l.system)
