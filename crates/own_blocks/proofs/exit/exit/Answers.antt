use Rattle.std.proofs.Common.{arith}
use Rattle.arena_holds.specs.Places.{in_cache}
use Rattle.arena_core.proofs.Opens.{on_err}
use Rattle.arena_holds.proofs.Carrying.{carries_err, served_fewer}
use Rattle.own_blocks.specs.Own.{in_own}
use Rattle.own_blocks.proofs.Calling.{carries_cache}
use Rattle.own_blocks.proofs.Exits.{exit_left, leaves_does, leaves_carries}
use Rattle.own_blocks.proofs.exit.exit.Goals as goal

pub close_cache-requires-clause-served : goal.close_cache-requires-clause-served
close_cache-requires-clause-served g c = λ k l. served_fewer g.met.P.Places.laws.fewer (in_cache c.args.own.now.cache) (λ w. omega arith) c.requires.served

pub returns-in_err-close_cache-clause-carries : goal.returns-in_err-close_cache-clause-carries
returns-in_err-close_cache-clause-carries g c =
    carries_err c.from_residual.result c.from_residual.ensures.0
    (carries_cache g.met.P.Places.laws.same c.args.own.now.cache c.close_cache.new.cache c.args.own.now.names c.in_err-close_cache.ensures.carries)

pub returns-clause-does : goal.returns-clause-does
returns-clause-does g c =
    leaves_does c.args.who.now.thread c.args.own.now c.close_cache.new.cache c.in_ok-close_cache.ensures.closed c.in_ok-close_cache.ensures.does c.leave.ensures

pub returns-clause-carries : goal.returns-clause-carries
returns-clause-carries g c =
    leaves_carries (in_own (record { cache = c.close_cache.new.cache; names = c.args.own.now.names })) g.met.P.Places.laws.same
    (carries_cache g.met.P.Places.laws.same c.args.own.now.cache c.close_cache.new.cache c.args.own.now.names c.in_ok-close_cache.ensures.carries)
    c.leave.ensures.unseen

pub returns-in_err-close_cache-clause-left : goal.returns-in_err-close_cache-clause-left
returns-in_err-close_cache-clause-left g c = on_err c.from_residual.result (exit_left c.args.who.now.thread c.args.own.now c.in_err-close_cache.ensures.left)
