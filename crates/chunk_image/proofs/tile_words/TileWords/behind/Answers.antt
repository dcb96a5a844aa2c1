use Rattle.std.proofs.Common.{arith}
use Rattle.chunk_image.proofs.ReadLaws.{behind_read}
use Rattle.chunk_image.proofs.tile_words.TileWords.behind.Goals as goal

pub overflow_add-end : goal.overflow_add-end
overflow_add-end c =
    let b = (behind_read _ _ _ c.self.invariant (rw (← c.self.view_is) at c.requires.row) (rw (← c.self.view_is, ← c.t.view_is) at c.requires.tile) (rw (← c.t.view_is) at c.requires.chunk)) in
    omega (arith, b.end)

pub read_head-head-requires : goal.read_head-head-requires
read_head-head-requires c = (behind_read _ _ _ c.self.invariant (rw (← c.self.view_is) at c.requires.row) (rw (← c.self.view_is, ← c.t.view_is) at c.requires.tile) (rw (← c.t.view_is) at c.requires.chunk)).place

pub returns : goal.returns
returns c =
    rw (← c.self.view_is, ← c.t.view_is, c.read_head-head.ensures) (behind_read _ _ _ c.self.invariant (rw (← c.self.view_is) at c.requires.row) (rw (← c.self.view_is, ← c.t.view_is) at c.requires.tile) (rw (← c.t.view_is) at c.requires.chunk)).read
