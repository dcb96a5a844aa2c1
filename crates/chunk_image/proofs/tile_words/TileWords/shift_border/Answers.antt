use Rattle.std.proofs.Common.{arith}
use Rattle.chunk_image.proofs.TileLaws.{side, can_clear}
use Rattle.chunk_image.proofs.BorderLaws.{can_stand_first, can_stand_second, end_below, row_shifted}
use Rattle.chunk_image.proofs.tile_words.TileWords.shift_border.Goals as goal

pub put-requires-clause-stands : goal.put-requires-clause-stands
put-requires-clause-stands c =
    can_clear _ _ _ c.self.invariant (side _ _ _ _ (record { kept = c.self.invariant; row = rw (← c.self.view_is) at c.requires.row; found = rw (← c.self.view_is) at c.requires.tile; chunk = c.requires.chunk; behind = rw (← c.self.view_is, ← c.u.view_is) at c.requires.behind })).second.found

pub put-requires-2-clause-stands : goal.put-requires-2-clause-stands
put-requires-2-clause-stands c =
    can_stand_first _ _ _ _ _ _ (record { sides = record { kept = c.self.invariant; row = rw (← c.self.view_is) at c.requires.row; found = rw (← c.self.view_is, ← c.t.view_is) at c.requires.tile; chunk = rw (← c.t.view_is) at c.requires.chunk; behind = rw (← c.self.view_is, ← c.t.view_is, ← c.u.view_is) at c.requires.behind }; used = rw (← c.t.view_is) at c.requires.used; rest = rw (← c.u.view_is) at c.requires.rest; whole = rw (← c.nb.view_is) at c.requires.whole; some = rw (← c.nb.view_is) at c.requires.some; less = rw (← c.nb.view_is, ← c.t.view_is, ← c.u.view_is) at c.requires.less; below = rw (← c.t.view_is, ← c.u.view_is) at c.requires.below })
    (record { written = c.put.ensures.heads; extent = c.put.ensures.extent })

pub overflow_add-next : goal.overflow_add-next
overflow_add-next c =
    let end = end_below _ _ _ _ _ (record { sides = record { kept = c.self.invariant; row = rw (← c.self.view_is) at c.requires.row; found = rw (← c.self.view_is, ← c.t.view_is) at c.requires.tile; chunk = rw (← c.t.view_is) at c.requires.chunk; behind = rw (← c.self.view_is, ← c.t.view_is, ← c.u.view_is) at c.requires.behind }; used = rw (← c.t.view_is) at c.requires.used; rest = rw (← c.u.view_is) at c.requires.rest; whole = rw (← c.nb.view_is) at c.requires.whole; some = rw (← c.nb.view_is) at c.requires.some; less = rw (← c.nb.view_is, ← c.t.view_is, ← c.u.view_is) at c.requires.less; below = rw (← c.t.view_is, ← c.u.view_is) at c.requires.below }) in
    let less = rw (← c.nb.view_is, ← c.t.view_is, ← c.u.view_is) at c.requires.less in
    omega (arith, end, less)

pub put-requires-3-clause-stands : goal.put-requires-3-clause-stands
put-requires-3-clause-stands c =
    can_stand_second _ _ _ _ _ _ _ (record { sides = record { kept = c.self.invariant; row = rw (← c.self.view_is) at c.requires.row; found = rw (← c.self.view_is, ← c.t.view_is) at c.requires.tile; chunk = rw (← c.t.view_is) at c.requires.chunk; behind = rw (← c.self.view_is, ← c.t.view_is, ← c.u.view_is) at c.requires.behind }; used = rw (← c.t.view_is) at c.requires.used; rest = rw (← c.u.view_is) at c.requires.rest; whole = rw (← c.nb.view_is) at c.requires.whole; some = rw (← c.nb.view_is) at c.requires.some; less = rw (← c.nb.view_is, ← c.t.view_is, ← c.u.view_is) at c.requires.less; below = rw (← c.t.view_is, ← c.u.view_is) at c.requires.below })
    (record { written = c.put.ensures.heads; extent = c.put.ensures.extent }) c.put-2.ensures.extent

pub returns-clause-tiles : goal.returns-clause-tiles
returns-clause-tiles c =
    rw (← c.self.view_is, ← c.t.view_is, ← c.u.view_is, ← c.nb.view_is) (row_shifted _ _ _ _ _ _ _ _ (record { sides = record { kept = c.self.invariant; row = rw (← c.self.view_is) at c.requires.row; found = rw (← c.self.view_is, ← c.t.view_is) at c.requires.tile; chunk = rw (← c.t.view_is) at c.requires.chunk; behind = rw (← c.self.view_is, ← c.t.view_is, ← c.u.view_is) at c.requires.behind }; used = rw (← c.t.view_is) at c.requires.used; rest = rw (← c.u.view_is) at c.requires.rest; whole = rw (← c.nb.view_is) at c.requires.whole; some = rw (← c.nb.view_is) at c.requires.some; less = rw (← c.nb.view_is, ← c.t.view_is, ← c.u.view_is) at c.requires.less; below = rw (← c.t.view_is, ← c.u.view_is) at c.requires.below })
    (record { written = c.put.ensures.heads; extent = c.put.ensures.extent }) c.put-2.ensures.heads c.put-2.ensures.extent c.put-3.ensures.heads c.put-3.ensures.extent)
