use Rattle.chunk_image.proofs.TileLaws.{can_clear, row_cleared}
use Rattle.chunk_image.proofs.tile_words.TileWords.remove.Goals as goal

pub put-requires-clause-stands : goal.put-requires-clause-stands
put-requires-clause-stands c =
    can_clear _ _ _ c.self.invariant (rw (← c.self.view_is, ← c.t.view_is) at c.requires)

pub returns : goal.returns
returns c =
    rw (← c.self.view_is, ← c.t.view_is) (row_cleared _ _ _ _ c.self.invariant (rw (← c.self.view_is, ← c.t.view_is) at c.requires) c.put.ensures.heads c.put.ensures.extent)
