use Rattle.std.proofs.Common.{◌≡◌, drop}
use Rattle.arena_choice.specs.Numbers.{behind_or}
use Rattle.arena_choice.proofs.row.Row.behind_or.Given as goal

abbrev pub invariant-loop-i : goal.invariant-loop-i
invariant-loop-i l = behind_or l.other l.a (drop l.i l.numbers) ≡ behind_or l.other l.a l.numbers
