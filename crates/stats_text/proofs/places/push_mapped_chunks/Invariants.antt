use Rattle.std.proofs.Common.{◌≡◌, ◌≤◌, ◌++◌, take}
use Rattle.std.specs.Prelude.{vec_capacity}
use Rattle.stats_text.specs.Report.{mapped_lines}
use Rattle.stats_text.proofs.places.push_mapped_chunks.Given as goal

abbrev pub invariant-loop-tile : goal.invariant-loop-tile
invariant-loop-tile l = record {
  text : l.out.items ≡ l.initial.out.items ++ mapped_lines (take l.tile-index l.tiles);
  room : vec_capacity l.initial.out ≤ vec_capacity l.out;
}
