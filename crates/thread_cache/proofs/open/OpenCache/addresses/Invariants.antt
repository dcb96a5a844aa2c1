use Rattle.std.proofs.Common.{◌≡◌, map, take}
use Rattle.thread_cache.proofs.open.OpenCache.addresses.Given as goal

abbrev pub invariant-loop-list : goal.invariant-loop-list
invariant-loop-list l = map (λ v. v.items) l.lists.items ≡ map (λ blocks. map (λ b. b.addr) blocks) (map (λ s. s.blocks) (take l.list-index l.list-items))
