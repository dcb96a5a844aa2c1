use Rattle.std.proofs.Common.{◌≡◌, ◌-◌, ◌≤◌, true, length, take}
use Rattle.std.specs.List.{list_all}
use Rattle.std.specs.Char.{is_ascii_digit}
use Rattle.trace_text.specs.Numbers.{value_of}
use Rattle.trace_text.proofs.numbers.first_digits.Given as goal

abbrev pub invariant-loop-count : goal.invariant-loop-count
invariant-loop-count l = record {
  within : l.count ≤ length l.text;
  digits : list_all is_ascii_digit (take l.count l.text) ≡ true;
  value : l.value ≡ value_of (take l.count l.text);
}

abbrev pub decreases-loop-count : goal.decreases-loop-count
decreases-loop-count l = length l.text - l.count
