use Rattle.std.proofs.Common.{arith}
use Rattle.chunk_image.proofs.TileLaws.{can_enter, row_entered}
use Rattle.chunk_image.proofs.tile_words.TileWords.enter.Goals as goal

pub put-requires-clause-stands : goal.put-requires-clause-stands
put-requires-clause-stands c =
    can_enter _ _ (rw (← c.t.view_is) at c.requires.kind) (rw (← c.t.view_is) at c.requires.some) (rw (← c.t.view_is) at c.requires.fits) (rw (← c.self.view_is, ← c.t.view_is) at c.requires.room)

pub returns : goal.returns
returns c =
    rw (← c.self.view_is, ← c.t.view_is) (row_entered _ _ _ (let room = rw (← c.self.view_is, ← c.t.view_is) at c.requires.room in omega (arith, room.end)) (rw (← c.self.view_is, ← c.t.view_is) at c.requires.none) (rw (← c.t.view_is) at c.requires.some) c.put.ensures.heads c.put.ensures.extent)
