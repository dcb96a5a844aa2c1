use Rattle.std.proofs.Common.{length}
use Rattle.thread_cache.specs.Caches.{blocks_of}
use Rattle.chunk_tests.proofs.cache_tests.drained.Given as goal

abbrev pub decreases-loop-block : goal.decreases-loop-block
decreases-loop-block l = length (blocks_of l.cache)
