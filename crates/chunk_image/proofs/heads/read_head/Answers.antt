use Rattle.std.proofs.Common.{arith}
use Rattle.chunk_image.specs.Heads.{no_cell}
use Rattle.chunk_image.proofs.CellLaws.{extent_of-heads, head_read}
use Rattle.chunk_image.proofs.heads.read_head.Goals as goal

pub get-requires : goal.get-requires
get-requires c = (omega arith, rw (extent_of-heads c.args.cells.now) at c.requires)

pub returns : goal.returns
returns c =
    head_read _ _ _ _ (c.get.ensures no_cell) c.unpacked.ensures
