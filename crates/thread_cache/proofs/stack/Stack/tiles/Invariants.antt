use Rattle.std.proofs.Common.{◌≡◌, map, take}
use Rattle.thread_cache.specs.Caches.{block_tile}
use Rattle.thread_cache.proofs.stack.Stack.tiles.Given as goal

abbrev pub invariant-loop-block : goal.invariant-loop-block
invariant-loop-block l = l.tiles.items ≡ map block_tile (take l.block-index l.block-items)
