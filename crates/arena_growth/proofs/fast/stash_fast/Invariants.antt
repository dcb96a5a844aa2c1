use Rattle.std.proofs.Common.{◌-◌, length}
use Rattle.chunk_tags.specs.Sizes.{cache_index_of}
use Rattle.thread_cache.specs.Caches.{list_of}
use Rattle.arena_growth.specs.Ledgers.{near}
use Rattle.arena_growth.proofs.FastBins.{Stashing}
use Rattle.arena_growth.proofs.fast.stash_fast.Given as goal

abbrev pub invariant-stashing : goal.invariant-stashing
invariant-stashing g l = Stashing g.P.FastPort.fast l.nb (g.M.Moves.plain l.g) (near l.fn.port l.fn.cache) (near l.port l.cache) l.fn.said.items l.said.items

abbrev pub decreases-stashing : goal.decreases-stashing
decreases-stashing g l = 128 - length (list_of l.cache (cache_index_of l.nb))
