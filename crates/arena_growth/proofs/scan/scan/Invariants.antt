use Rattle.std.proofs.Common.{length}
use Rattle.arena_rules.specs.PlainArena.{unsorted_of}
use Rattle.arena_growth.specs.Ledgers.{stage}
use Rattle.arena_growth.proofs.Scanning.{Scanning}
use Rattle.arena_growth.proofs.scan.scan.Given as goal

abbrev pub invariant-scanning : goal.invariant-scanning
invariant-scanning g l = Scanning l.nb l.sorted l.stashed (stage (g.M.Moves.plain l.fn.g) l.fn.cache l.fn.said.items) (stage (g.M.Moves.plain l.g) l.cache l.said.items)

abbrev pub decreases-scanning : goal.decreases-scanning
decreases-scanning g l = length (unsorted_of (g.M.Moves.plain l.g))
