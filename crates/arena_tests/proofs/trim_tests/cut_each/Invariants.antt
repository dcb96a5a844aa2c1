use Rattle.arena_rules.specs.PlainArena.{IsSound}
use Rattle.arena_tests.proofs.trim_tests.cut_each.Given as goal

abbrev pub invariant-loop-nb : goal.invariant-loop-nb
invariant-loop-nb g l = IsSound l.g.arena
