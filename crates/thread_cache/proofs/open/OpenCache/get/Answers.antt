use Rattle.std.proofs.Common.{drop}
use Rattle.thread_cache.proofs.Kept.{Reads, list_at, seen_with, kept_without}
use Rattle.thread_cache.proofs.CacheLaws.{list_at-newest}
use Rattle.thread_cache.proofs.open.OpenCache.get.Goals as goal
use Rattle.thread_cache.proofs.open.OpenCache.get.Goals.{After-index_mut-list}

reads : (c : After-index_mut-list) → Reads c.self.inside.structure c.self.inside.count c.self.inside.bins c.self.inside.lists.items c.args.bin c.index_mut-list.result.now
reads c = record { kept = c.self.invariant; below = c.requires; read = rw c.from.ensures at c.index_mut-list.ensures.value }

pub invariant_of-self : goal.invariant_of-self
invariant_of-self c =
    rw c.from.ensures (kept_without _ _ _ _ _ _ c.pop.new.self (reads (goal.at.invariant_of-self c).After-index_mut-list) c.pop.ensures.blocks c.pop.ensures.room)

pub returns-clause-rest : goal.returns-clause-rest
returns-clause-rest c =
    rw (c.from.ensures, ← c.self.view_is, seen_with _ _ _ _ _ _ c.pop.new.self (reads (goal.at.returns-clause-rest c).After-index_mut-list) (drop 1) c.pop.ensures.blocks)

pub returns-clause-cached : goal.returns-clause-cached
returns-clause-cached c =
    rw c.pop.ensures.newest (list_at-newest _ _ _ (list_at _ _ _ _ _ _ (reads (goal.at.returns-clause-cached c).After-index_mut-list)))

pub returns-clause-sound : goal.returns-clause-sound
returns-clause-sound c = (invariant_of-self c).sound
