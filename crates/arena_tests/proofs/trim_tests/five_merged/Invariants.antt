use Rattle.arena_rules.specs.PlainArena.{IsSound}
use Rattle.arena_tests.proofs.trim_tests.five_merged.Given as goal

abbrev pub invariant-loop-at : goal.invariant-loop-at
invariant-loop-at g l = IsSound l.g.arena
