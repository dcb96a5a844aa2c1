use Rattle.chunk_image.proofs.TileLaws.{begins, can_set_kind, row_changed}
use Rattle.chunk_image.proofs.tile_words.TileWords.set_kind.Goals as goal

pub put-requires-clause-stands : goal.put-requires-clause-stands
put-requires-clause-stands c =
    can_set_kind _ _ _ c.args.kind c.self.invariant (rw (← c.self.view_is) at c.requires.row) (rw (← c.self.view_is, ← c.t.view_is) at c.requires.tile) (rw (← c.t.view_is) at c.requires.chunk)

pub returns : goal.returns
returns c =
    let found = rw (← c.self.view_is, ← c.t.view_is) at c.requires.tile in
    rw (← c.self.view_is, ← c.t.view_is) (row_changed _ _ _ _ _ c.self.invariant found (begins _ _ _ c.self.invariant found).some c.put.ensures.heads c.put.ensures.extent)
