use Rattle.std.proofs.Common.{arith}
use Rattle.chunk_image.proofs.TileLaws.{side, can_clear, can_fuse, row_fused}
use Rattle.chunk_image.proofs.tile_words.TileWords.fuse.Goals as goal

pub put-requires-clause-stands : goal.put-requires-clause-stands
put-requires-clause-stands c =
    can_clear _ _ _ c.self.invariant (side _ _ _ _ (record { kept = c.self.invariant; row = rw (← c.self.view_is) at c.requires.row; found = rw (← c.self.view_is) at c.requires.tile; chunk = c.requires.chunk; behind = rw (← c.self.view_is, ← c.u.view_is) at c.requires.behind })).second.found

pub overflow_add-size : goal.overflow_add-size
overflow_add-size c =
    let s = side _ _ _ _ (record { kept = c.self.invariant; row = rw (← c.self.view_is) at c.requires.row; found = rw (← c.self.view_is, ← c.t.view_is) at c.requires.tile; chunk = rw (← c.t.view_is) at c.requires.chunk; behind = rw (← c.self.view_is, ← c.t.view_is, ← c.u.view_is) at c.requires.behind }) in
    omega (arith, s.joins, s.second.room.end)

pub put-requires-2-clause-stands : goal.put-requires-2-clause-stands
put-requires-2-clause-stands c =
    can_fuse _ _ _ _ c.args.kind _ (record { kept = c.self.invariant; row = rw (← c.self.view_is) at c.requires.row; found = rw (← c.self.view_is, ← c.t.view_is) at c.requires.tile; chunk = rw (← c.t.view_is) at c.requires.chunk; behind = rw (← c.self.view_is, ← c.t.view_is, ← c.u.view_is) at c.requires.behind }) (rw (← c.u.view_is) at c.requires.free) (rw (← c.t.view_is, ← c.u.view_is) at c.requires.below) c.put.ensures.heads c.put.ensures.extent

pub returns : goal.returns
returns c =
    rw (← c.self.view_is, ← c.t.view_is, ← c.u.view_is) (row_fused _ _ _ _ c.args.kind _ _ (record { kept = c.self.invariant; row = rw (← c.self.view_is) at c.requires.row; found = rw (← c.self.view_is, ← c.t.view_is) at c.requires.tile; chunk = rw (← c.t.view_is) at c.requires.chunk; behind = rw (← c.self.view_is, ← c.t.view_is, ← c.u.view_is) at c.requires.behind }) c.put.ensures.heads c.put.ensures.extent c.put-2.ensures.heads c.put-2.ensures.extent)
