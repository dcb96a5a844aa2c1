use Rattle.std.proofs.Common.{◌≡◌, ◌+◌, ◌-◌, ◌++◌, drop}
use Rattle.stats_text.specs.Words.{hex_digits}
use Rattle.stats_text.proofs.words.put_hex.Given as goal

abbrev pub invariant-loop-done : goal.invariant-loop-done
invariant-loop-done l = record {
  place : l.start + l.done ≡ l.end;
  text : hex_digits (12 - l.done) l.left ++ drop l.start l.text ≡ hex_digits 12 l.n ++ drop l.end l.initial.text;
}
