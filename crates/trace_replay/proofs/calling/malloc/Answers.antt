use Rattle.std.proofs.Common.{refl, inl}
use Rattle.std.proofs.lemmas.Result.{on_err_weaker}
use Rattle.malloc_calls.specs.declared.thread.Thread.{Thread}
use Rattle.trace_text.specs.declared.trace.Call.TheVariants.{Malloc}
use Rattle.trace_replay.proofs.LeftThere.{no_place, left_there, names_same}
use Rattle.trace_replay.proofs.Keeping.{served_there}
use Rattle.malloc_calls.specs.Threads.{own_of, names_of, number_of}
use Rattle.malloc_calls.specs.Mallocs.{malloc_call}
use Rattle.trace_replay.proofs.CallResults.{KeepsOthers, malloc_keeps}
use Rattle.trace_replay.proofs.HeldNames.{makes_bytes, nothing_there, room_there}
use Rattle.trace_replay.proofs.QuietCalls.{quiet_call}
use Rattle.trace_replay.proofs.Results.{if_ok, if_ok₂, on_err}
use Rattle.trace_replay.proofs.calling.malloc.Goals as goal

pub returns-clause-keeps : goal.returns-clause-keeps
returns-clause-keeps g c =
    if_ok _ _ c.malloc.result (λ reply q. q.keeps)
    (quiet_call g.K.Kernel.port c.args.t.now c.args.line c.args.name (malloc_call c.args.t.now (number_of c.ready.new.self) c.args.name c.args.size (own_of c.ready.new.self)) c.args.thread.now c.ready.new.self c.malloc.new.self c.args.serial.now c.malloc.new.p
    (KeepsOthers c.args.name (names_of c.ready.new.self)) c.malloc.result c.in_ok-ready.ensures.ok c.malloc.ensures.number (malloc_keeps c.args.t.now (number_of c.ready.new.self) c.args.name c.args.size (own_of c.ready.new.self))
    c.malloc.ensures.carries c.malloc.ensures.does)

pub returns-clause-names : goal.returns-clause-names
returns-clause-names g c =
    if_ok₂ _ _ _ c.malloc.result
    (λ reply q fits. makes_bytes c.args.thread.now c.ready.new.self c.malloc.new.self c.args.name c.args.size reply c.in_ok-ready.ensures.ok q.result fits)
    (quiet_call g.K.Kernel.port c.args.t.now c.args.line c.args.name (malloc_call c.args.t.now (number_of c.ready.new.self) c.args.name c.args.size (own_of c.ready.new.self)) c.args.thread.now c.ready.new.self c.malloc.new.self c.args.serial.now c.malloc.new.p
    (KeepsOthers c.args.name (names_of c.ready.new.self)) c.malloc.result c.in_ok-ready.ensures.ok c.malloc.ensures.number (malloc_keeps c.args.t.now (number_of c.ready.new.self) c.args.name c.args.size (own_of c.ready.new.self))
    c.malloc.ensures.carries c.malloc.ensures.does)
    c.malloc.ensures.fits

pub returns-clause-trays : goal.returns-clause-trays
returns-clause-trays g c =
    if_ok _ _ c.malloc.result (λ reply q. q.trays)
    (quiet_call g.K.Kernel.port c.args.t.now c.args.line c.args.name (malloc_call c.args.t.now (number_of c.ready.new.self) c.args.name c.args.size (own_of c.ready.new.self)) c.args.thread.now c.ready.new.self c.malloc.new.self c.args.serial.now c.malloc.new.p
    (KeepsOthers c.args.name (names_of c.ready.new.self)) c.malloc.result c.in_ok-ready.ensures.ok c.malloc.ensures.number (malloc_keeps c.args.t.now (number_of c.ready.new.self) c.args.name c.args.size (own_of c.ready.new.self))
    c.malloc.ensures.carries c.malloc.ensures.does)

pub malloc-requires-clause-room : goal.malloc-requires-clause-room
malloc-requires-clause-room g c = λ κs within. room_there c.args.thread.now c.ready.new.self c.args.name c.in_ok-ready.ensures.ok

pub malloc-requires-clause-empty : goal.malloc-requires-clause-empty
malloc-requires-clause-empty g c = λ κs within. nothing_there c.args.thread.now c.ready.new.self c.args.name c.in_ok-ready.ensures.ok c.requires.free

pub malloc-requires-clause-served : goal.malloc-requires-clause-served
malloc-requires-clause-served g c = λ κs within.
    served_there c.args.t.now c.args.thread.now c.ready.new.self c.args.serial.now c.args.name c.in_ok-ready.ensures.ok c.requires.served

pub returns-in_err-ready-clause-left : goal.returns-in_err-ready-clause-left
returns-in_err-ready-clause-left g c =
    on_err c.from_residual.result (inl (no_place c.args.name (Malloc c.args.name c.args.size) c.args.thread.now c.ready.new.self c.args.serial.now refl c.in_err-ready.ensures.full c.in_err-ready.ensures.err))

pub returns-clause-left : goal.returns-clause-left
returns-clause-left g c =
    left_there g.K.Kernel.port c.args.t.now c.args.line c.args.name (Malloc c.args.name c.args.size) (λ (x : Thread _). malloc_call c.args.t.now (number_of x) c.args.name c.args.size (own_of x))
    c.args.thread.now c.ready.new.self c.malloc.new.self c.args.serial.now c.malloc.new.p c.malloc.result c.in_ok-ready.ensures.ok refl refl c.malloc.ensures.left
    (on_err_weaker c.malloc.result (names_same c.args.name (names_of c.ready.new.self) (names_of c.malloc.new.self)) c.malloc.ensures.names)
