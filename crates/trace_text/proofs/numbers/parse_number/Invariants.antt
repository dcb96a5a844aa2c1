use Rattle.std.proofs.Common.{◌≡◌, ◌<◌, ◌^◌, true, take}
use Rattle.std.specs.List.{list_all}
use Rattle.std.specs.Char.{is_ascii_digit}
use Rattle.trace_text.specs.Numbers.{value_of}
use Rattle.trace_text.proofs.numbers.parse_number.Given as goal

abbrev pub invariant-loop-digit : goal.invariant-loop-digit
invariant-loop-digit l = record {
  digits : list_all is_ascii_digit (take l.digit-index l.field) ≡ true;
  value : l.value ≡ value_of (take l.digit-index l.field);
  small : l.value < 2 ^ 64;
}
