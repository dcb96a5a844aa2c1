use Rattle.std.proofs.Common.{arith, sym, ◌∙◌}
use Rattle.stats_text.proofs.Digits.{next_digit, none_to_come}
use Rattle.stats_text.proofs.words.put_hex.Goals as goal

pub loop-done-preserved : goal.loop-done-preserved
loop-done-preserved c = record {
  place = omega (arith, c.loop-done.invariant.place, c.put_byte-start.ensures.start);
  text = rw (c.put_byte-start.ensures.written, c.hex_digit.ensures) (next_digit _ _ _ c.loop-done-test.true ∙ c.loop-done.invariant.text);
}

pub returns-clause-written : goal.returns-clause-written
returns-clause-written c = sym (none_to_come _ _ _ c.loop-done-test.false) ∙ c.loop-done.invariant.text
