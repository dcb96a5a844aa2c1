use Rattle.std.proofs.Common.{sym, arith}
use Rattle.chunk_image.specs.Heads.{no_cell}
use Rattle.chunk_image.proofs.CellLaws.{extent_of-feet, foot_at-cells}
use Rattle.chunk_image.proofs.heads.read_foot.Goals as goal

pub get-requires : goal.get-requires
get-requires c = (omega arith, rw (extent_of-feet c.args.cells.now) at c.requires)

pub returns : goal.returns
returns c =
    rw (c.from.ensures, c.get.ensures no_cell) (sym (foot_at-cells c.args.cells.now c.args.at))
