use Rattle.thread_cache.proofs.Kept.{kept_empty}
use Rattle.thread_cache.proofs.open.OpenCache.new.Goals as goal

pub invariant_of-result : goal.invariant_of-result
invariant_of-result c = kept_empty _ _ _ _ c.requires.count c.requires.bins c.in-Ok.ensures.empty c.in-Ok.ensures.room

pub returns-in-Ok-clause-sound : goal.returns-in-Ok-clause-sound
returns-in-Ok-clause-sound c = (invariant_of-result c).sound
