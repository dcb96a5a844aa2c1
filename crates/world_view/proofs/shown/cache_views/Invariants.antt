use Rattle.std.proofs.Common.{◌≡◌, ◌++◌, map, drop}
use Rattle.malloc_calls.specs.Threads.{own_of}
use Rattle.world_view.specs.Scenes.{caches_from}
use Rattle.world_view.proofs.shown.cache_views.Given as goal

abbrev pub invariant-loop-number : goal.invariant-loop-number
invariant-loop-number g l = l.views.items ++ caches_from l.number (map own_of (drop l.number l.threads)) ≡ caches_from 0 (map own_of l.threads)
