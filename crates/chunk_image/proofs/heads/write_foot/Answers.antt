use Rattle.std.proofs.Common.{◌≡◌, ◌+◌, ◌*◌, ◌/◌, sym, ap, ◌∙◌, arith}
use Rattle.part_words.specs.Parts.{update}
use Rattle.chunk_image.specs.Heads.{no_cell, foot_at, feet_of}
use Rattle.chunk_image.specs.declared.heads.Cell.{Cell}
use Rattle.chunk_image.proofs.CellLaws.{extent_of-feet, heads_same, feet_written}
use Rattle.chunk_image.proofs.heads.write_foot.Goals as goal

pub get-head-requires : goal.get-head-requires
get-head-requires c = (omega arith, rw (extent_of-feet c.args.cells.now) at (c.requires.word (sym c.if-is_free.ensures)).0)

pub set-requires : goal.set-requires
set-requires c = (omega arith, rw (extent_of-feet c.args.cells.now) at (c.requires.word (sym c.if-is_free.ensures)).0)

pub returns-then-is_free-clause-heads : goal.returns-then-is_free-clause-heads
returns-then-is_free-clause-heads c =
    heads_same _ _ _ _ (record { word = c.set.ensures.word no_cell }) (ap (λ (x : Cell). x.head) (c.get-head.ensures no_cell))

pub returns-then-is_free-clause-feet : goal.returns-then-is_free-clause-feet
returns-then-is_free-clause-feet c =
    let whole : c.args.value / 16 * 16 ≡ c.args.value = omega (arith, c.requires.fits.whole) in
    rw (← c.if-is_free.ensures) (feet_written _ _ _ _ (record { word = c.set.ensures.word no_cell }) ∙ ap (update (foot_at (feet_of c.args.cells.now)) (c.args.at + c.args.head.size)) whole)
