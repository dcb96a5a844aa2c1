use Rattle.std.proofs.Common.{◌≡◌, take, drop}
use Rattle.arena_core.proofs.reading.next_answers.Given as goal

abbrev pub invariant-loop : goal.invariant-loop
invariant-loop l = record {
  said : l.said.items ≡ take l.counter l.fn.answers;
  answers : l.answers ≡ drop l.counter l.fn.answers;
}
