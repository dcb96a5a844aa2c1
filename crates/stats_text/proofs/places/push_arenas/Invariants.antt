use Rattle.std.proofs.Common.{◌≡◌, ◌≤◌, ◌++◌, take}
use Rattle.std.specs.Prelude.{vec_capacity}
use Rattle.stats_text.specs.Report.{arena_sections}
use Rattle.stats_text.proofs.places.push_arenas.Given as goal

abbrev pub invariant-loop-arena : goal.invariant-loop-arena
invariant-loop-arena l = record {
  text : l.out.items ≡ l.initial.out.items ++ arena_sections (take l.arena-index l.arenas);
  room : vec_capacity l.initial.out ≤ vec_capacity l.out;
}
