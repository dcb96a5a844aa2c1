use Rattle.std.proofs.Common.{◌≡◌, ◌≤◌, ◌+◌, ◌++◌, take, map, length, vec_len, vec_capacity}
use Rattle.arena_core.specs.Kept.{told_of, asks_in}
use Rattle.arena_core.proofs.kept.keep_all.Given as goal

abbrev pub invariant-loop-answer : goal.invariant-loop-answer
invariant-loop-answer l = record {
  told : l.told.items ≡ l.fn.told.items ++ map told_of (take l.answer-index l.said);
  asks : l.asks.items ≡ l.fn.asks.items ++ asks_in (take l.answer-index l.said);
  told_room : vec_len l.told + length l.said ≤ vec_capacity l.told + l.answer-index;
  asks_room : vec_len l.asks + length l.said ≤ vec_capacity l.asks + l.answer-index;
}
