use Rattle.std.proofs.Common.{ap, ◌∙◌, refl, arith}
use Rattle.chunk_image.specs.Heads.{no_cell}
use Rattle.chunk_image.specs.declared.heads.Cell.{Cell}
use Rattle.part_words.proofs.Opening.{IsOpen-covers}
use Rattle.chunk_image.proofs.CellLaws.{extent_of-heads, heads_open, feet_open, head_read, heads_written, feet_same}
use Rattle.chunk_image.proofs.HeadLaws.{IsKept-put, IsOpen-foot}
use Rattle.chunk_image.proofs.heads.put.Goals as goal

pub get-cell-requires : goal.get-cell-requires
get-cell-requires c = (omega arith, rw (extent_of-heads c.args.cells.now) at c.requires.stands.place)

pub set-requires : goal.set-requires
set-requires c = (omega arith, rw (extent_of-heads c.args.cells.now) at c.requires.stands.place)

pub write_foot-requires-clause-word : goal.write_foot-requires-clause-word
write_foot-requires-clause-word c =
    rw (feet_open _ _ c.set.ensures.extent, head_read _ _ _ _ (c.get-cell.ensures no_cell) c.unpacked.ensures) (IsOpen-foot _ _ c.args.at c.requires.kept)

pub write_foot-requires-2-clause-word : goal.write_foot-requires-2-clause-word
write_foot-requires-2-clause-word c free =
    rw (feet_open _ _ (c.write_foot.ensures.extent ∙ c.set.ensures.extent)) (IsOpen-covers _ _ _ c.requires.kept.covers (c.requires.stands.foot free), c.requires.stands.room.end)

pub returns-clause-heads : goal.returns-clause-heads
returns-clause-heads c =
    rw (c.write_foot-2.ensures.heads, c.write_foot.ensures.heads) (heads_written _ _ _ _ _ (record { word = c.set.ensures.word no_cell }) c.packed.ensures)

pub returns-clause-extent : goal.returns-clause-extent
returns-clause-extent c =
    heads_open _ _ (c.write_foot-2.ensures.extent ∙ (c.write_foot.ensures.extent ∙ c.set.ensures.extent))

pub returns-clause-kept : goal.returns-clause-kept
returns-clause-kept c =
    let same = feet_same _ _ _ _ (record { word = c.set.ensures.word no_cell }) (ap (λ (x : Cell). x.foot) (c.get-cell.ensures no_cell)) in
    IsKept-put _ _ c.args.at c.args.head _ _ c.requires.kept c.requires.stands (record {
      written = returns-clause-heads c;
      footed = rw (c.write_foot-2.ensures.feet, c.write_foot.ensures.feet, same, head_read _ _ _ _ (c.get-cell.ensures no_cell) c.unpacked.ensures) refl;
      extent = returns-clause-extent c;
      foot_extent = feet_open _ _ (c.write_foot-2.ensures.extent ∙ (c.write_foot.ensures.extent ∙ c.set.ensures.extent));
    })
