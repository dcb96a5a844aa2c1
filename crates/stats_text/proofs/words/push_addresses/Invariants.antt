use Rattle.std.proofs.Common.{◌≡◌, ◌≤◌, ◌++◌, take}
use Rattle.std.specs.Prelude.{vec_capacity}
use Rattle.stats_text.specs.Words.{addresses}
use Rattle.stats_text.proofs.words.push_addresses.Given as goal

abbrev pub invariant-loop-at : goal.invariant-loop-at
invariant-loop-at l = record {
  text : l.out.items ≡ l.initial.out.items ++ addresses (take l.at-index l.ats);
  room : vec_capacity l.initial.out ≤ vec_capacity l.out;
}
