use Rattle.std.proofs.Common.{ap, ◌/◌, []}
use Rattle.chunk_image.proofs.HeadLaws.{IsKept-no_words}
use Rattle.chunk_image.proofs.ScanLaws.{tiles_of-no_words}
use Rattle.chunk_image.proofs.tile_words.TileWords.new.Goals as goal

pub invariant_of-result : goal.invariant_of-result
invariant_of-result c = rw c.new.ensures (IsKept-no_words _ _)

pub returns : goal.returns
returns c =
    rw (c.new.ensures, c.base.view_is) (ap (λ ts. record { tiles = ts; extent = record { base = c.args.base; width = c.args.stride / 16; words = [] } }) (tiles_of-no_words c.args.base c.args.stride))
