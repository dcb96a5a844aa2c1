use Rattle.chunk_image.proofs.TileLaws.{IsOpen-begin}
use Rattle.chunk_image.proofs.ReadLaws.{begins_read}
use Rattle.chunk_image.proofs.tile_words.TileWords.tile.Goals as goal

pub read_head-head-requires : goal.read_head-head-requires
read_head-head-requires c =
    rw c.at.view_is (IsOpen-begin _ _ (begins_read _ _ c.args.at c.self.invariant (rw (← c.self.view_is) at c.requires)))

pub returns-clause-tile : goal.returns-clause-tile
returns-clause-tile c =
    let head = rw c.at.view_is at c.read_head-head.ensures in
    rw (← c.self.view_is, head) (begins_read _ _ c.args.at c.self.invariant (rw (← c.self.view_is) at c.requires)).found

pub returns-clause-room : goal.returns-clause-room
returns-clause-room c =
    let head = rw c.at.view_is at c.read_head-head.ensures in
    rw (← c.self.view_is, head) (begins_read _ _ c.args.at c.self.invariant (rw (← c.self.view_is) at c.requires)).room

pub returns-clause-fits : goal.returns-clause-fits
returns-clause-fits c =
    let head = rw c.at.view_is at c.read_head-head.ensures in
    rw head (begins_read _ _ c.args.at c.self.invariant (rw (← c.self.view_is) at c.requires)).fits
