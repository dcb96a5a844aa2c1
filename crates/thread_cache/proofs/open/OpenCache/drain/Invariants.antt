use Rattle.std.proofs.Common.{◌≡◌, ◌<◌, ℕ, [], get_or}
use Rattle.thread_cache.proofs.open.OpenCache.drain.Given as goal

abbrev pub invariant-loop-bin : goal.invariant-loop-bin
invariant-loop-bin l = record { same : l.self ≡ l.initial.self; empty : (k : ℕ) → k < l.bin → get_or l.initial.self.lists k [] ≡ [] }
