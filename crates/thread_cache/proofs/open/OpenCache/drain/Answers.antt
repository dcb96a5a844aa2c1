use Rattle.std.proofs.Common.{sym, ap, arith}
use Rattle.std.proofs.lemmas.List.{length-map}
use Rattle.thread_cache.specs.Caches.{blocks_of}
use Rattle.thread_cache.specs.Stacks.{Stacked}
use Rattle.thread_cache.proofs.Draining.{IsFirstAt, AreEmpty, first_at, none_in}
use Rattle.thread_cache.proofs.open.OpenCache.drain.Goals as goal

found : (c : goal.In-Some) → IsFirstAt c.args.self.now.lists c.loop-bin.bin c.in-Some.block
found c = first_at _ _ _ c.loop-bin.invariant.empty (sym (rw c.loop-bin.invariant.same at c.in-Some.ensures.newest))

pub returns-in-Some-clause-next : goal.returns-in-Some-clause-next
returns-in-Some-clause-next c = sym (found c).next

pub returns-in-Some-clause-rest : goal.returns-in-Some-clause-rest
returns-in-Some-clause-rest c = rw (c.in-Some.ensures.rest, c.loop-bin.invariant.same, (found c).rest)

pub returns-in-Some-clause-order : goal.returns-in-Some-clause-order
returns-in-Some-clause-order c = rw (ap blocks_of (rw c.loop-bin.invariant.same at c.in-Some.ensures.rest)) (found c).order

empty : (c : goal.After-loop-bin) → AreEmpty c.args.self.now.lists
empty c = none_in _ (λ k h. c.loop-bin.invariant.empty k (omega (arith, rw (← c.self.view_is) at h, length-map c.self.inside.lists.items (λ (s : Stacked). s.blocks), c.self.inside.lists.ok.0)))

pub returns-clause-next : goal.returns-clause-next
returns-clause-next c = sym (empty c).next

pub returns-clause-rest : goal.returns-clause-rest
returns-clause-rest c = rw (c.loop-bin.invariant.same, (empty c).rest)

pub returns-clause-empty : goal.returns-clause-empty
returns-clause-empty c = (empty c).order
