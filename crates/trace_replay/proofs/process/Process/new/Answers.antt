use Rattle.std.proofs.Common.{arith}
use Rattle.trace_replay.proofs.FirstThreads.{first_world_is, first_settled, first_holds, first_fits}
use Rattle.trace_replay.proofs.process.Process.new.Goals as goal

pub returns-clause-world : goal.returns-clause-world
returns-clause-world g c = first_world_is c.args.t.now c.args.kernels.items _ _ c.in_ok-new_threads.ensures c.in_ok-new.ensures

pub returns-clause-settled : goal.returns-clause-settled
returns-clause-settled g c = first_settled c.args.t.now c.args.kernels.items _ _ (omega (arith, c.args.kernels.ok.0, c.requires.ports)) c.in_ok-new_threads.ensures c.in_ok-new.ensures

pub returns-clause-holds : goal.returns-clause-holds
returns-clause-holds g c = first_holds c.args.t.now c.args.kernels.items _ (first_world_is c.args.t.now c.args.kernels.items _ _ c.in_ok-new_threads.ensures c.in_ok-new.ensures)

pub returns-clause-fit : goal.returns-clause-fit
returns-clause-fit g c = first_fits c.args.t.now c.args.kernels.items _ (first_world_is c.args.t.now c.args.kernels.items _ _ c.in_ok-new_threads.ensures c.in_ok-new.ensures)
