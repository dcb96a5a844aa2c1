use Rattle.arena_holds.specs.Searching.{IsAligned}
use Rattle.arena_core.proofs.Opens.{on_err}
use Rattle.arena_holds.specs.Calls.{Done}
use Rattle.arena_holds.proofs.RunningShort.{short_behind}
use Rattle.own_blocks.specs.Calls.{supplied_by}
use Rattle.own_blocks.proofs.Supplies.{supplies_found, aligned_found}
use Rattle.own_blocks.proofs.supplying.supply_from_arena.Goals as goal

pub returns-clause-supplies : goal.returns-clause-supplies
returns-clause-supplies g c =
    supplies_found c.args.who.now.thread c.args.bytes c.args.again _ c.args.act.now c.args.cache.now c.in_ok-search.search.block c.found.result
    c.found.ensures c.in_ok-search.ensures.finds

pub returns-clause-aligned : goal.returns-clause-aligned
returns-clause-aligned g c =
    rw c.found.ensures (aligned_found c.in_ok-search.search.hold c.in_ok-search.search.block (IsAligned c.args.act.now) c.in_ok-search.ensures.finds.gets.aligned)

pub returns-in_err-search-clause-left : goal.returns-in_err-search-clause-left
returns-in_err-search-clause-left g c = on_err c.from_residual.result (short_behind (λ x. Done (supplied_by x)) c.in_err-search.ensures.left)
