use Rattle.std.proofs.Common.{◌<◌, ◌≤◌, take}
use Rattle.std.specs.Prelude.{All}
use Rattle.stats_text.proofs.totals.place_count.Given as goal

abbrev pub invariant-loop-arena : goal.invariant-loop-arena
invariant-loop-arena l = record { all : All (λ a. a.list < l.count) (take l.arena-index l.arenas); few : l.count ≤ 256 }
