use Rattle.std.proofs.Common.{◌≡◌, ◌<◌, ◌-◌, ◌^◌}
use Rattle.chunk_image.specs.Heads.{heads_of}
use Rattle.chunk_image.proofs.ScanLaws.{tiles_below}
use Rattle.chunk_image.proofs.tile_words.TileWords.tiles.Given as goal

abbrev pub invariant-loop-at : goal.invariant-loop-at
invariant-loop-at l =
    record { read : l.tiles.items ≡ tiles_below (heads_of l.cells) l.from; below : l.from < 2 ^ 64 }

abbrev pub decreases-loop-at : goal.decreases-loop-at
decreases-loop-at l = 2 ^ 64 - l.from
