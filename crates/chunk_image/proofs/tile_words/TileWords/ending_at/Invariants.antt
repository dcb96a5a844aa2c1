use Rattle.std.proofs.Common.{◌≡◌}
use Rattle.chunk_image.specs.Heads.{head_at, heads_of}
use Rattle.chunk_image.proofs.EndLaws.{IsNearEnd}
use Rattle.chunk_image.proofs.tile_words.TileWords.ending_at.Given as goal

abbrev pub invariant-loop-head : goal.invariant-loop-head
invariant-loop-head l =
    record { near : IsNearEnd (heads_of l.cells) l.fn.end l.at; read : l.head ≡ head_at (heads_of l.cells) l.at }

abbrev pub decreases-loop-head : goal.decreases-loop-head
decreases-loop-head l = l.at
