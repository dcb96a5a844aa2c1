use Rattle.std.proofs.Common.{◌≡◌, ◌≤◌, ◌++◌, take}
use Rattle.std.specs.Prelude.{vec_capacity}
use Rattle.stats_text.specs.Report.{tile_lines}
use Rattle.stats_text.proofs.places.push_tiles.Given as goal

abbrev pub invariant-loop-tile : goal.invariant-loop-tile
invariant-loop-tile l = record {
  text : l.out.items ≡ l.initial.out.items ++ tile_lines (take l.tile-index l.tiles);
  room : vec_capacity l.initial.out ≤ vec_capacity l.out;
}
