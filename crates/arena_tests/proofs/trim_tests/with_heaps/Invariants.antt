use Rattle.arena_rules.specs.PlainArena.{IsSound}
use Rattle.arena_tests.proofs.trim_tests.with_heaps.Given as goal

abbrev pub invariant-loop-len : goal.invariant-loop-len
invariant-loop-len g l = IsSound l.g.arena
