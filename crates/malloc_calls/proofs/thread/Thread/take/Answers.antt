use Rattle.malloc_calls.proofs.Handovers.{take_does, take_unseen, empty_does, empty_unseen}
use Rattle.malloc_calls.proofs.thread.Thread.take.Goals as goal

pub returns-in-Ok-clause-does : goal.returns-in-Ok-clause-does
returns-in-Ok-clause-does g c = λ t who.
    take_does t who c.args.self.now.space c.args.name c.args.tray c.in-Ok.block c.args.self.now.own c.put.new.self c.put.ensures c.in-Ok.ensures

pub returns-in-Ok-clause-unseen : goal.returns-in-Ok-clause-unseen
returns-in-Ok-clause-unseen g c =
    take_unseen c.args.name c.args.tray c.in-Ok.block c.args.self.now.own c.put.new.self g.met.P.Places.laws.same c.requires.room c.requires.empty c.put.ensures
    c.in-Ok.ensures

pub returns-in-Err-clause-does : goal.returns-in-Err-clause-does
returns-in-Err-clause-does g c = λ t who.
    empty_does t who c.args.self.now.space c.args.name c.args.tray c.in-Err.empty.seen c.args.self.now.own c.in-Err.ensures

pub returns-in-Err-clause-unseen : goal.returns-in-Err-clause-unseen
returns-in-Err-clause-unseen g c = empty_unseen c.args.tray c.in-Err.empty.seen c.args.self.now.own g.met.P.Places.laws.same c.in-Err.ensures
