use Rattle.std.proofs.Common.{refl, sym, ◌∙◌, arith}
use Rattle.arena_holds.specs.Places.{in_cache}
use Rattle.arena_core.proofs.Opens.{on_err}
use Rattle.own_blocks.proofs.LeftCalls.{left_search, left_unopened}
use Rattle.own_blocks.proofs.Calling.{opening_here, opening_found, opened_does, opened_carries}
use Rattle.arena_holds.proofs.Carrying.{carries_here, carries_as}
use Rattle.arena_holds.proofs.Searches.{err_map}
use Rattle.own_blocks.proofs.Structures.{closed_still}
use Rattle.own_blocks.proofs.opening.open_cache.Goals as goal

pub returns-then-is_open-clause-does : goal.returns-then-is_open-clause-does
returns-then-is_open-clause-does g c =
    opening_here _ c.args.t.now c.args.who.now c.args.who.now.thread c.args.cache.now _ (sym c.is_open.ensures ∙ c.if-is_open.true)

pub returns-then-is_open-clause-carries : goal.returns-then-is_open-clause-carries
returns-then-is_open-clause-carries g c = carries_here g.P.Places.ways _ _ _

pub open-requires-clause-held : goal.open-requires-clause-held
open-requires-clause-held g c = rw c.in-Some.is at c.in_ok-block.ensures.finds.gets.held

pub returns-in-None-clause-does : goal.returns-in-None-clause-does
returns-in-None-clause-does g c =
    rw c.in-None.is at
    (opening_found c.args.who.now.thread c.args.cache.now c.in_ok-block.field-0.block (sym c.is_open.ensures ∙ c.if-is_open.false) c.in_ok-block.ensures.finds)

pub returns-in-None-clause-carries : goal.returns-in-None-clause-carries
returns-in-None-clause-carries g c =
    carries_as g.met.P.Places.laws.same (in_cache c.args.cache.now) (in_cache c.search.new.self) (λ w. refl) (λ w. omega arith)
    (rw c.in-None.is at c.in_ok-block.ensures.finds.gets.carries)

pub returns-in-Some-clause-does : goal.returns-in-Some-clause-does
returns-in-Some-clause-does g c =
    opened_does c.open.new.self _ c.open.result c.open.ensures.ok
    (rw c.in-Some.is at
    (opening_found c.args.who.now.thread c.args.cache.now c.in_ok-block.field-0.block (sym c.is_open.ensures ∙ c.if-is_open.false) c.in_ok-block.ensures.finds))

pub returns-in-Some-clause-carries : goal.returns-in-Some-clause-carries
returns-in-Some-clause-carries g c =
    opened_carries c.in-Some.structure c.args.t.now.tcache_count c.args.t.now.tcache_bins c.args.cache.now c.search.new.self c.open.new.self c.open.result
    g.met.P.Places.laws.same g.met.P.Places.laws.fewer (c.in_ok-block.ensures.finds.gets.opens ∙ (sym c.is_open.ensures ∙ c.if-is_open.false)) c.open.ensures.ok
    c.open.ensures.unchanged (rw c.in-Some.is at c.in_ok-block.ensures.finds.gets.carries)

pub returns-in_err-block-clause-left : goal.returns-in_err-block-clause-left
returns-in_err-block-clause-left g c =
    on_err c.from_residual.result (left_search c.args.cache.now (sym c.is_open.ensures ∙ c.if-is_open.false) c.in_err-block.ensures.left)

pub returns-in-Some-clause-left : goal.returns-in-Some-clause-left
returns-in-Some-clause-left g c =
    on_err c.open.result
    (left_unopened c.args.cache.now c.in-Some.structure (sym c.is_open.ensures ∙ c.if-is_open.false) (rw c.in-Some.is at c.in_ok-block.ensures.finds))

pub returns-in_err-block-clause-kept : goal.returns-in_err-block-clause-kept
returns-in_err-block-clause-kept g c =
    on_err c.from_residual.result (closed_still c.args.cache.now c.search.new.self c.search.ensures.structure (sym c.is_open.ensures ∙ c.if-is_open.false))

pub returns-in-Some-clause-kept : goal.returns-in-Some-clause-kept
returns-in-Some-clause-kept g c =
    err_map c.open.result
    (λ same. same ∙ closed_still c.args.cache.now c.search.new.self c.search.ensures.structure (sym c.is_open.ensures ∙ c.if-is_open.false)) c.open.ensures.unchanged
