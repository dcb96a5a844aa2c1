use Rattle.std.proofs.Common.{◌≡◌, map, take}
use Rattle.std.specs.List.{flat_map}
use Rattle.thread_cache.specs.Caches.{block_tile}
use Rattle.thread_cache.proofs.open.OpenCache.tiles.Given as goal

abbrev pub invariant-loop-list : goal.invariant-loop-list
invariant-loop-list l = l.tiles.items ≡ map block_tile (flat_map (λ blocks. blocks) (map (λ s. s.blocks) (take l.list-index l.list-items)))
