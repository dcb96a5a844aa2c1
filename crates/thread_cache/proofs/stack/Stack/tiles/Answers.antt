use Rattle.std.proofs.Common.{refl}
use Rattle.std.proofs.lemmas.List.{take_all}
use Rattle.list_laws.proofs.Reversed.{map-reverse}
use Rattle.thread_cache.specs.Caches.{block_tile}
use Rattle.thread_cache.proofs.stack.Stack.tiles.Goals as goal

pub returns : goal.returns
returns c =
    rw (c.reverse.ensures.items, c.loop-block.invariant, take_all c.loop-block.block-index c.deref-block-items.result.now c.loop-block-test.false, c.deref-block-items.ensures.value, ← c.self.view_is, map-reverse block_tile c.self.inside.oldest_first.items) refl
