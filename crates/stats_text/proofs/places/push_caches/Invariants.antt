use Rattle.std.proofs.Common.{◌≡◌, ◌≤◌, ◌++◌, take}
use Rattle.std.specs.Prelude.{vec_capacity}
use Rattle.stats_text.specs.Report.{cache_lines}
use Rattle.stats_text.proofs.places.push_caches.Given as goal

abbrev pub invariant-loop-cache : goal.invariant-loop-cache
invariant-loop-cache l = record {
  text : l.out.items ≡ l.initial.out.items ++ cache_lines (take l.cache-index l.caches);
  room : vec_capacity l.initial.out ≤ vec_capacity l.out;
}
