use Rattle.own_blocks.specs.Calls.{from_cache}
use Rattle.own_blocks.specs.Own.{newest_of_size}
use Rattle.arena_holds.proofs.Carrying.{served_after}
use Rattle.std.proofs.Common.{inl}
use Rattle.arena_core.proofs.Opens.{on_err}
use Rattle.arena_holds.proofs.Searches.{err_map}
use Rattle.own_blocks.proofs.LeftCalls.{left_behind, left_then}
use Rattle.own_blocks.proofs.Supplies.{supplies_opened, short_opened}
use Rattle.own_blocks.proofs.supplying.plain_supply.Goals as goal

pub supply_open-requires-clause-served : goal.supply_open-requires-clause-served
supply_open-requires-clause-served g c = λ k l. served_after g.met.P.Places.laws.same c.requires.served c.in_ok-open_cache.ensures.carries

pub returns-clause-supplies : goal.returns-clause-supplies
returns-clause-supplies g c =
    supplies_opened c.args.who.now.thread c.args.nb c.args.cache.now c.open_cache.new.cache c.supply_open.new.cache _
    (λ x. from_cache c.args.t.now c.args.who.now.thread c.args.bytes c.args.nb (newest_of_size c.args.nb x) x)
    c.supply_open.result c.in_ok-open_cache.ensures.does c.in_ok-open_cache.ensures.later c.in_ok-open_cache.ensures.carries c.supply_open.ensures.supplies

pub returns-clause-short : goal.returns-clause-short
returns-clause-short g c = short_opened _ _ c.supply_open.result c.in_ok-open_cache.ensures.carries c.supply_open.ensures.short

pub returns-in_err-open_cache-clause-left : goal.returns-in_err-open_cache-clause-left
returns-in_err-open_cache-clause-left g c =
    on_err c.from_residual.result
    (left_behind (λ x. from_cache c.args.t.now c.args.who.now.thread c.args.bytes c.args.nb (newest_of_size c.args.nb x) x) c.in_err-open_cache.ensures.left)

pub returns-clause-left : goal.returns-clause-left
returns-clause-left g c =
    err_map c.supply_open.result
    (λ r. left_then (λ x. from_cache c.args.t.now c.args.who.now.thread c.args.bytes c.args.nb (newest_of_size c.args.nb x) x)
    c.in_ok-open_cache.ensures.does (inl r)) c.supply_open.ensures.left
