use Rattle.std.proofs.Common.{◌≡◌, ◌≤◌, ◌++◌, take}
use Rattle.std.specs.Prelude.{vec_capacity}
use Rattle.stats_text.specs.Views.{lists_of}
use Rattle.stats_text.specs.Report.{bin_lines}
use Rattle.stats_text.proofs.places.push_bins.Given as goal

abbrev pub invariant-loop-bin : goal.invariant-loop-bin
invariant-loop-bin l = record {
  text : l.out.items ≡ l.initial.out.items ++ bin_lines l.name (lists_of (take l.bin-index l.bins));
  room : vec_capacity l.initial.out ≤ vec_capacity l.out;
}
