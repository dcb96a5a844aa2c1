use Rattle.std.proofs.Common.{◌-◌, length}
use Rattle.chunk_tags.specs.Sizes.{cache_index_of}
use Rattle.thread_cache.specs.Caches.{list_of}
use Rattle.arena_growth.specs.Ledgers.{stage}
use Rattle.arena_growth.proofs.SmallBins.{Stashing}
use Rattle.arena_growth.proofs.small.stash_small.Given as goal

abbrev pub invariant-stashing : goal.invariant-stashing
invariant-stashing g l = Stashing l.nb (stage (g.M.Moves.plain l.fn.g) l.fn.cache l.fn.said.items) (stage (g.M.Moves.plain l.g) l.cache l.said.items)

abbrev pub decreases-stashing : goal.decreases-stashing
decreases-stashing g l = 128 - length (list_of l.cache (cache_index_of l.nb))
