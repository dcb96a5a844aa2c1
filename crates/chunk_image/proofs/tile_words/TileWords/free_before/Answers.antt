use Rattle.std.proofs.Common.{sym, ◌∙◌, arith}
use Rattle.part_words.proofs.Opening.{IsOpen-covers}
use Rattle.chunk_image.proofs.TileLaws.{IsOpen-begin}
use Rattle.chunk_image.proofs.ReadLaws.{begins_read, no_free_before, free_before_read}
use Rattle.chunk_image.proofs.tile_words.TileWords.free_before.Goals as goal

pub read_foot-size-requires : goal.read_foot-size-requires
read_foot-size-requires c =
    rw c.at.view_is (IsOpen-covers _ _ _ c.self.invariant.covers (IsOpen-begin _ _ (begins_read _ _ c.args.at c.self.invariant (rw (← c.self.view_is) at c.requires.tile))))

pub returns-then-size-eq0 : goal.returns-then-size-eq0
returns-then-size-eq0 c =
    let foot = rw c.at.view_is at c.read_foot-size.ensures in
    rw (← c.self.view_is) (sym (no_free_before _ _ c.args.at c.self.invariant (rw (← c.self.view_is) at c.requires.row) (sym foot ∙ c.if-size-eq0.true)))

pub returns : goal.returns
returns c =
    let foot = rw c.at.view_is at c.read_foot-size.ensures in
    rw (← c.self.view_is, c.at.view_is, foot) (sym (free_before_read _ _ c.args.at c.self.invariant (rw (← c.self.view_is) at c.requires.row) (rw (← c.self.view_is) at c.requires.tile) (omega (arith, foot, c.if-size-eq0.false))))
