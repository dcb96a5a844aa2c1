use Rattle.std.proofs.Common.{false, sym, ap, ◌∙◌, arith}
use Rattle.thread_cache.specs.Caches.{structure_of}
use Rattle.arena_core.proofs.Opens.{on_err}
use Rattle.arena_holds.proofs.Carrying.{carries_err, carries_here, served_after, served_fewer}
use Rattle.arena_holds.proofs.Going.{does_here}
use Rattle.own_blocks.proofs.Exits.{closed_is, weigh_drained, weigh_last, empties_next, drained_carries, drained_left, closed_left, closed_none, closed_last, closed_none_carries, closed_last_carries}
use Rattle.own_blocks.proofs.exit.close_cache.Goals as goal

pub release_last-requires-clause-served : goal.release_last-requires-clause-served
release_last-requires-clause-served g c = λ k l.
    served_fewer g.met.P.Places.laws.fewer (λ weigh. weigh c.in-Some.block)
    (λ w. omega (arith, weigh_drained c.loop-block.cache c.drain.new.self c.in-Some.block c.in-Some.ensures.order c.drain.ensures.rest w))
    (served_after g.met.P.Places.laws.same c.requires.served c.loop-block.invariant.carries)

pub loop-block-preserved : goal.loop-block-preserved
loop-block-preserved g c =
    empties_next c.in-Some.block g.met.P.Places.laws.same c.loop-block.invariant c.in-Some.ensures.order c.drain.ensures.rest
    c.in_ok-release_last.ensures.does c.in_ok-release_last.ensures.carries

pub returns-in_err-release_last-clause-carries : goal.returns-in_err-release_last-clause-carries
returns-in_err-release_last-clause-carries g c =
    carries_err c.from_residual.result c.from_residual.ensures.0
    (drained_carries false c.in-Some.block g.met.P.Places.laws.same c.loop-block.invariant c.in-Some.ensures.order c.drain.ensures.rest
    c.in_err-release_last.ensures.carries)

pub release_last-requires-in-Some-close-clause-served : goal.release_last-requires-in-Some-close-clause-served
release_last-requires-in-Some-close-clause-served g c = λ k l.
    let some = sym (c.in-Some-close.ensures.structure ∙ ap structure_of c.in_default.ensures.unchanged) in
    served_fewer g.met.P.Places.laws.fewer (λ weigh. weigh c.in-Some-close.structure)
    (λ w. omega (arith, weigh_last c.loop-block.cache c.in-Some-close.structure c.in_default.ensures.empty some w))
    (served_after g.met.P.Places.laws.same c.requires.served c.loop-block.invariant.carries)

pub returns-in-None-clause-does : goal.returns-in-None-clause-does
returns-in-None-clause-does g c =
    closed_none c.loop-block.invariant c.in_default.ensures.empty (sym (c.in-None.ensures.structure ∙ ap structure_of c.in_default.ensures.unchanged))

pub returns-in-None-clause-carries : goal.returns-in-None-clause-carries
returns-in-None-clause-carries g c =
    rw c.close.ensures.closed
    (closed_none_carries g.met.P.Places.laws.same c.loop-block.invariant c.in_default.ensures.empty
    (sym (c.in-None.ensures.structure ∙ ap structure_of c.in_default.ensures.unchanged)))

pub returns-in-Some-close-clause-does : goal.returns-in-Some-close-clause-does
returns-in-Some-close-clause-does g c =
    closed_last c.in-Some-close.structure _ c.release_last-in-Some-close.result c.loop-block.invariant c.in_default.ensures.empty
    (sym (c.in-Some-close.ensures.structure ∙ ap structure_of c.in_default.ensures.unchanged)) c.release_last-in-Some-close.ensures.does

pub returns-in-Some-close-clause-carries : goal.returns-in-Some-close-clause-carries
returns-in-Some-close-clause-carries g c =
    rw c.close.ensures.closed
    (closed_last_carries _ c.in-Some-close.structure g.met.P.Places.laws.same c.loop-block.invariant c.in_default.ensures.empty
    (sym (c.in-Some-close.ensures.structure ∙ ap structure_of c.in_default.ensures.unchanged)) c.release_last-in-Some-close.ensures.carries)

pub returns-then-not-is_open-clause-does : goal.returns-then-not-is_open-clause-does
returns-then-not-is_open-clause-does g c = rw (closed_is c.args.cache.now (sym c.is_open.ensures ∙ c.if-not-is_open.true)) (does_here _ _)

pub returns-then-not-is_open-clause-carries : goal.returns-then-not-is_open-clause-carries
returns-then-not-is_open-clause-carries g c = carries_here g.P.Places.ways _ _ _

pub returns-then-not-is_open-clause-closed : goal.returns-then-not-is_open-clause-closed
returns-then-not-is_open-clause-closed g c = closed_is c.args.cache.now (sym c.is_open.ensures ∙ c.if-not-is_open.true)

pub returns-in_err-release_last-clause-left : goal.returns-in_err-release_last-clause-left
returns-in_err-release_last-clause-left g c =
    on_err c.from_residual.result
    (drained_left c.in-Some.block c.loop-block.invariant c.in-Some.ensures.order c.drain.ensures.rest c.in_err-release_last.ensures.left)

pub returns-in-Some-close-clause-left : goal.returns-in-Some-close-clause-left
returns-in-Some-close-clause-left g c =
    closed_left c.in-Some-close.structure _ c.release_last-in-Some-close.result c.loop-block.invariant c.in_default.ensures.empty
    (sym (c.in-Some-close.ensures.structure ∙ ap structure_of c.in_default.ensures.unchanged)) c.release_last-in-Some-close.ensures.left
