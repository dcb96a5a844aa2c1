use Rattle.std.proofs.Common.{◌≡◌, take}
use Rattle.stats_text.specs.Totals.{used_bytes_of}
use Rattle.stats_text.proofs.totals.used_bytes.Given as goal

abbrev pub invariant-loop-arena : goal.invariant-loop-arena
invariant-loop-arena l = l.used ≡ used_bytes_of (take l.arena-index l.arenas)
