use Rattle.std.proofs.Common.{◌≡◌, ◌++◌, ◌-◌}
use Rattle.arena_choice.specs.Numbers.{lowest_from}
use Rattle.arena_choice.proofs.row.lowest_unused.Given as goal

abbrev pub invariant-loop-a : goal.invariant-loop-a
invariant-loop-a l = lowest_from (l.count - l.a) l.a (l.list.numbers ++ l.kept.numbers) ≡ lowest_from l.count 0 (l.list.numbers ++ l.kept.numbers)
