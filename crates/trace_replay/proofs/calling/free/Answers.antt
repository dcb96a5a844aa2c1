use Rattle.std.proofs.Common.{refl, inl}
use Rattle.std.proofs.lemmas.Result.{on_err_weaker}
use Rattle.malloc_calls.specs.declared.thread.Thread.{Thread}
use Rattle.trace_text.specs.declared.trace.Call.TheVariants.{Free}
use Rattle.trace_replay.proofs.LeftThere.{no_place, left_there, names_lost}
use Rattle.trace_replay.proofs.Keeping.{served_there}
use Rattle.malloc_calls.specs.Threads.{own_of, names_of, number_of}
use Rattle.own_blocks.specs.Frees.{free_call}
use Rattle.trace_replay.proofs.CallResults.{Empties, free_empties}
use Rattle.trace_replay.proofs.HeldNames.{empties_name}
use Rattle.trace_replay.proofs.QuietCalls.{quiet_call}
use Rattle.trace_replay.proofs.Results.{if_ok, on_err}
use Rattle.trace_replay.proofs.calling.free.Goals as goal

pub returns-clause-keeps : goal.returns-clause-keeps
returns-clause-keeps g c =
    if_ok _ _ c.free.result (λ reply q. q.keeps)
    (quiet_call g.K.Kernel.port c.args.t.now c.args.line c.args.name (free_call c.args.t.now (number_of c.ready.new.self) c.args.name (own_of c.ready.new.self)) c.args.thread.now c.ready.new.self c.free.new.self c.args.serial.now c.free.new.p
    (Empties c.args.name (names_of c.ready.new.self)) c.free.result c.in_ok-ready.ensures.ok c.free.ensures.number (free_empties c.args.t.now (number_of c.ready.new.self) c.args.name (own_of c.ready.new.self))
    c.free.ensures.carries c.free.ensures.does)

pub returns-clause-names : goal.returns-clause-names
returns-clause-names g c =
    if_ok _ _ c.free.result
    (λ reply q. empties_name c.args.thread.now c.ready.new.self c.free.new.self c.args.name reply c.in_ok-ready.ensures.ok q.result)
    (quiet_call g.K.Kernel.port c.args.t.now c.args.line c.args.name (free_call c.args.t.now (number_of c.ready.new.self) c.args.name (own_of c.ready.new.self)) c.args.thread.now c.ready.new.self c.free.new.self c.args.serial.now c.free.new.p
    (Empties c.args.name (names_of c.ready.new.self)) c.free.result c.in_ok-ready.ensures.ok c.free.ensures.number (free_empties c.args.t.now (number_of c.ready.new.self) c.args.name (own_of c.ready.new.self))
    c.free.ensures.carries c.free.ensures.does)

pub returns-clause-trays : goal.returns-clause-trays
returns-clause-trays g c =
    if_ok _ _ c.free.result (λ reply q. q.trays)
    (quiet_call g.K.Kernel.port c.args.t.now c.args.line c.args.name (free_call c.args.t.now (number_of c.ready.new.self) c.args.name (own_of c.ready.new.self)) c.args.thread.now c.ready.new.self c.free.new.self c.args.serial.now c.free.new.p
    (Empties c.args.name (names_of c.ready.new.self)) c.free.result c.in_ok-ready.ensures.ok c.free.ensures.number (free_empties c.args.t.now (number_of c.ready.new.self) c.args.name (own_of c.ready.new.self))
    c.free.ensures.carries c.free.ensures.does)

pub free-requires-clause-served : goal.free-requires-clause-served
free-requires-clause-served g c = λ κs within.
    served_there c.args.t.now c.args.thread.now c.ready.new.self c.args.serial.now c.args.name c.in_ok-ready.ensures.ok c.requires.served

pub returns-in_err-ready-clause-left : goal.returns-in_err-ready-clause-left
returns-in_err-ready-clause-left g c =
    on_err c.from_residual.result (inl (no_place c.args.name (Free c.args.name) c.args.thread.now c.ready.new.self c.args.serial.now refl c.in_err-ready.ensures.full c.in_err-ready.ensures.err))

pub returns-clause-left : goal.returns-clause-left
returns-clause-left g c =
    left_there g.K.Kernel.port c.args.t.now c.args.line c.args.name (Free c.args.name) (λ (x : Thread _). free_call c.args.t.now (number_of x) c.args.name (own_of x))
    c.args.thread.now c.ready.new.self c.free.new.self c.args.serial.now c.free.new.p c.free.result c.in_ok-ready.ensures.ok refl refl c.free.ensures.left
    (on_err_weaker c.free.result (names_lost _ c.args.t.now _ c.args.name (names_of c.ready.new.self) (names_of c.free.new.self) _) c.free.ensures.names)
