use Rattle.std.proofs.lemmas.List.{take_all}
use Rattle.thread_cache.proofs.open.OpenCache.addresses.Goals as goal

pub returns-clause-addresses : goal.returns-clause-addresses
returns-clause-addresses c =
    rw (← c.self.view_is, ← c.deref-list-items.ensures.value, ← take_all c.loop-list.list-index c.deref-list-items.result.now c.loop-list-test.false) c.loop-list.invariant
