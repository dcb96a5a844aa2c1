use Rattle.chunk_image.proofs.TileLaws.{can_set_size, row_changed}
use Rattle.chunk_image.proofs.tile_words.TileWords.set_size.Goals as goal

pub put-requires-clause-stands : goal.put-requires-clause-stands
put-requires-clause-stands c =
    can_set_size _ _ _ _ c.self.invariant (rw (← c.self.view_is) at c.requires.row) (rw (← c.self.view_is, ← c.t.view_is) at c.requires.tile) (rw (← c.t.view_is) at c.requires.kind) (rw (← c.size.view_is) at c.requires.fits) (rw (← c.self.view_is, ← c.t.view_is, ← c.size.view_is) at c.requires.room)

pub returns : goal.returns
returns c =
    rw (← c.self.view_is, ← c.t.view_is, ← c.size.view_is) (row_changed _ _ _ _ _ c.self.invariant (rw (← c.self.view_is, ← c.t.view_is) at c.requires.tile) (rw (← c.size.view_is) at c.requires.some) c.put.ensures.heads c.put.ensures.extent)
