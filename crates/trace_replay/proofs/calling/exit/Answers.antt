use Rattle.std.proofs.lemmas.Result.{on_err_weaker}
use Rattle.trace_replay.proofs.LeftThere.{left_at_end}
use Rattle.malloc_calls.specs.Threads.{own_of, number_of}
use Rattle.own_blocks.specs.Exits.{exit_call}
use Rattle.trace_replay.proofs.CallResults.{quiet_exit}
use Rattle.trace_replay.proofs.QuietCalls.{quiet_end}
use Rattle.trace_replay.proofs.Results.{if_ok}
use Rattle.trace_replay.proofs.calling.exit.Goals as goal

pub returns-clause-keeps : goal.returns-clause-keeps
returns-clause-keeps g c =
    if_ok _ _ c.exit.result (λ reply q. q.keeps)
    (quiet_end g.K.Kernel.port c.args.t.now c.args.line (exit_call c.args.t.now (number_of c.args.thread.now) (own_of c.args.thread.now)) c.args.thread.now c.exit.new.self c.args.serial.now c.exit.new.p
    c.exit.result c.exit.ensures.number (quiet_exit c.args.t.now (number_of c.args.thread.now) (own_of c.args.thread.now)) c.exit.ensures.carries c.exit.ensures.does)

pub returns-clause-trays : goal.returns-clause-trays
returns-clause-trays g c =
    if_ok _ _ c.exit.result (λ reply q. q.trays)
    (quiet_end g.K.Kernel.port c.args.t.now c.args.line (exit_call c.args.t.now (number_of c.args.thread.now) (own_of c.args.thread.now)) c.args.thread.now c.exit.new.self c.args.serial.now c.exit.new.p
    c.exit.result c.exit.ensures.number (quiet_exit c.args.t.now (number_of c.args.thread.now) (own_of c.args.thread.now)) c.exit.ensures.carries c.exit.ensures.does)

pub returns-clause-left : goal.returns-clause-left
returns-clause-left g c =
    on_err_weaker c.exit.result (left_at_end g.K.Kernel.port c.args.t.now c.args.line c.args.thread.now c.exit.new.self c.args.serial.now c.exit.new.p c.exit.ensures.names) c.exit.ensures.left
