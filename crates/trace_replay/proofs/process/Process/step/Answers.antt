use Rattle.std.proofs.Common.{ap, set}
use Rattle.trace_replay.proofs.Results.{on_err}
use Rattle.trace_replay.proofs.Settling.{served_thread}
use Rattle.trace_replay.proofs.Stepping.{thread_at, may_call, step_told, tells_next, line_left, step_settled}
use Rattle.trace_replay.proofs.process.Process.step.Goals as goal

pub call-requires-clause-thread : goal.call-requires-clause-thread
call-requires-clause-thread g c = λ k l.
    let p = c.args.self.now in
    let at = thread_at p.threads.items c.from.result c.args.line.now.thread _ c.index_mut-thread.result.now c.from.ensures c.requires.may.thread c.requires.settled.count c.index_mut-thread.ensures.value in
    (c.requires.settled.ready c.args.line.now.thread c.index_mut-thread.result.now at).numbered

pub call-requires-clause-may : goal.call-requires-clause-may
call-requires-clause-may g c = λ k l.
    let p = c.args.self.now in
    let at = thread_at p.threads.items c.from.result c.args.line.now.thread _ c.index_mut-thread.result.now c.from.ensures c.requires.may.thread c.requires.settled.count c.index_mut-thread.ensures.value in
    may_call c.args.line.now p.threads.items p.serial c.index_mut-thread.result.now c.requires.may at

pub call-requires-clause-served : goal.call-requires-clause-served
call-requires-clause-served g c = λ k l.
    let p = c.args.self.now in
    let at = thread_at p.threads.items c.from.result c.args.line.now.thread _ c.index_mut-thread.result.now c.from.ensures c.requires.may.thread c.requires.settled.count c.index_mut-thread.ensures.value in
    served_thread p.t p.threads.items p.serial c.args.line.now.thread c.index_mut-thread.result.now at c.requires.settled

pub returns-clause-told : goal.returns-clause-told
returns-clause-told g c = λ tells.
    let p = c.args.self.now in
    let at = thread_at p.threads.items c.from.result c.args.line.now.thread _ c.index_mut-thread.result.now c.from.ensures c.requires.may.thread c.requires.settled.count c.index_mut-thread.ensures.value in
    step_told g.K.Kernel.port p.t c.args.line.now p.threads.items p.serial c.call.new.serial c.index_mut-thread.result.now c.call.new.thread c.tidy.new.thread c.in_ok-reply.reply c.from.result c.from.ensures at
    c.requires.settled tells c.in_ok-reply.ensures.done (record { is = c.tidy.ensures; rising = c.laws.ensures.rising; table = c.laws.ensures.held; held = c.laws-2.ensures.held })

pub returns-clause-telling : goal.returns-clause-telling
returns-clause-telling g c = λ tells.
    let p = c.args.self.now in
    let at = thread_at p.threads.items c.from.result c.args.line.now.thread _ c.index_mut-thread.result.now c.from.ensures c.requires.may.thread c.requires.settled.count c.index_mut-thread.ensures.value in
    tells_next g.K.Kernel.port p.t c.args.line.now p.threads.items p.serial c.call.new.serial c.index_mut-thread.result.now c.call.new.thread c.tidy.new.thread c.in_ok-reply.reply c.from.result at
    c.requires.settled tells c.in_ok-reply.ensures.done (record { is = c.tidy.ensures; rising = c.laws.ensures.rising; table = c.laws.ensures.held; held = c.laws-2.ensures.held })

pub returns-clause-blocks : goal.returns-clause-blocks
returns-clause-blocks g c =
    let p = c.args.self.now in
    let at = thread_at p.threads.items c.from.result c.args.line.now.thread _ c.index_mut-thread.result.now c.from.ensures c.requires.may.thread c.requires.settled.count c.index_mut-thread.ensures.value in
    line_left g.K.Kernel.port p.t c.args.line.now p.threads.items p.serial c.call.new.serial c.index_mut-thread.result.now c.call.new.thread c.tidy.new.thread c.in_ok-reply.reply c.from.result c.from.ensures at
    c.in_ok-reply.ensures.done (record { is = c.tidy.ensures; rising = c.laws.ensures.rising; table = c.laws.ensures.held; held = c.laws-2.ensures.held })

pub returns-clause-settled : goal.returns-clause-settled
returns-clause-settled g c =
    let p = c.args.self.now in
    let at = thread_at p.threads.items c.from.result c.args.line.now.thread _ c.index_mut-thread.result.now c.from.ensures c.requires.may.thread c.requires.settled.count c.index_mut-thread.ensures.value in
    step_settled g.K.Kernel.port p.t c.args.line.now p.threads.items p.serial c.call.new.serial c.index_mut-thread.result.now c.call.new.thread c.tidy.new.thread c.in_ok-reply.reply c.from.result c.from.ensures at
    c.in_ok-reply.ensures.done (record { is = c.tidy.ensures; rising = c.laws.ensures.rising; table = c.laws.ensures.held; held = c.laws-2.ensures.held }) c.requires.settled

pub returns-in_err-reply-clause-left : goal.returns-in_err-reply-clause-left
returns-in_err-reply-clause-left g c =
    let p = c.args.self.now in
    let at = thread_at p.threads.items c.from.result c.args.line.now.thread _ c.index_mut-thread.result.now c.from.ensures c.requires.may.thread c.requires.settled.count c.index_mut-thread.ensures.value in
    on_err c.from_residual.result (record {
      old = c.index_mut-thread.result.now;
      new = c.call.new.thread;
      thread = at;
      threads = ap (λ i. set p.threads.items i c.call.new.thread) c.from.ensures;
      call = c.in_err-reply.ensures.left;
    })
