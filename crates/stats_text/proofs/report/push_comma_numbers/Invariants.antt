use Rattle.std.proofs.Common.{◌≡◌, ◌≤◌, ◌++◌, take}
use Rattle.std.specs.Prelude.{vec_capacity}
use Rattle.stats_text.specs.Report.{comma_numbers}
use Rattle.stats_text.proofs.report.push_comma_numbers.Given as goal

abbrev pub invariant-loop-n : goal.invariant-loop-n
invariant-loop-n l = record {
  text : l.out.items ≡ l.initial.out.items ++ comma_numbers (take l.n-index l.ns);
  room : vec_capacity l.initial.out ≤ vec_capacity l.out;
}
