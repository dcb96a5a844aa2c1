use Rattle.std.proofs.Common.{length}
use Rattle.consolidate_trim.specs.Outside.{means}
use Rattle.thread_cache.specs.Caches.{blocks_of}
use Rattle.arena_holds.specs.Places.{setting, standing}
use Rattle.own_blocks.proofs.Exits.{Empties}
use Rattle.own_blocks.proofs.exit.close_cache.Given as goal

abbrev pub invariant-loop-block : goal.invariant-loop-block
invariant-loop-block g l =
    Empties (setting g.P.Places.ways (means g.P.Hold.FastPort.fast g.P.Hold.Dials.dials g.K.Kernel.port) g.P.Dial.Dials.dials)
    l.t l.who l.fn.cache (standing l.fn.p l.fn.space) l.cache (standing l.p l.space)

abbrev pub decreases-loop-block : goal.decreases-loop-block
decreases-loop-block g l = length (blocks_of l.cache)
