use Rattle.std.proofs.Common.{arith}
use Rattle.chunk_image.proofs.TileLaws.{begins, can_cut, can_part, row_cut}
use Rattle.chunk_image.proofs.tile_words.TileWords.split.Goals as goal

pub put-requires-clause-stands : goal.put-requires-clause-stands
put-requires-clause-stands c =
    can_cut _ _ _ _ c.args.first (record { kept = c.self.invariant; row = rw (← c.self.view_is) at c.requires.row; found = rw (← c.self.view_is, ← c.t.view_is) at c.requires.tile; whole = rw (← c.nb.view_is) at c.requires.whole; some = rw (← c.nb.view_is) at c.requires.some; less = rw (← c.nb.view_is, ← c.t.view_is) at c.requires.less }) c.requires.first

pub overflow_add-at : goal.overflow_add-at
overflow_add-at c =
    let b = begins _ _ _ c.self.invariant (rw (← c.self.view_is, ← c.t.view_is) at c.requires.tile) in
    let less = rw (← c.nb.view_is, ← c.t.view_is) at c.requires.less in
    omega (arith, b.room.end, less)

pub put-requires-2-clause-stands : goal.put-requires-2-clause-stands
put-requires-2-clause-stands c =
    can_part _ _ _ _ c.args.first c.args.rest _ (record { kept = c.self.invariant; row = rw (← c.self.view_is) at c.requires.row; found = rw (← c.self.view_is, ← c.t.view_is) at c.requires.tile; whole = rw (← c.nb.view_is) at c.requires.whole; some = rw (← c.nb.view_is) at c.requires.some; less = rw (← c.nb.view_is, ← c.t.view_is) at c.requires.less }) c.requires.first (rw (← c.t.view_is) at c.requires.rest) c.put.ensures.heads c.put.ensures.extent

pub returns : goal.returns
returns c =
    rw (← c.self.view_is, ← c.t.view_is, ← c.nb.view_is) (row_cut _ _ _ _ c.args.first c.args.rest _ _ (record { kept = c.self.invariant; row = rw (← c.self.view_is) at c.requires.row; found = rw (← c.self.view_is, ← c.t.view_is) at c.requires.tile; whole = rw (← c.nb.view_is) at c.requires.whole; some = rw (← c.nb.view_is) at c.requires.some; less = rw (← c.nb.view_is, ← c.t.view_is) at c.requires.less }) c.put.ensures.heads c.put.ensures.extent c.put-2.ensures.heads c.put-2.ensures.extent)
