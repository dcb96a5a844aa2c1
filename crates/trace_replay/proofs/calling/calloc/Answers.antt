use Rattle.std.proofs.Common.{refl, inl}
use Rattle.std.proofs.lemmas.Result.{on_err_weaker}
use Rattle.malloc_calls.specs.declared.thread.Thread.{Thread}
use Rattle.trace_text.specs.declared.trace.Call.TheVariants.{Calloc}
use Rattle.trace_replay.proofs.LeftThere.{no_place, left_there, names_same}
use Rattle.trace_replay.proofs.Keeping.{served_there}
use Rattle.std.proofs.Common.{◌*◌}
use Rattle.malloc_calls.specs.Threads.{own_of, names_of, number_of}
use Rattle.malloc_calls.specs.Mallocs.{calloc_call}
use Rattle.trace_replay.proofs.CallResults.{KeepsOthers, calloc_keeps}
use Rattle.trace_replay.proofs.HeldNames.{makes_bytes, nothing_there, room_there}
use Rattle.trace_replay.proofs.QuietCalls.{quiet_call}
use Rattle.trace_replay.proofs.Results.{if_ok, if_ok₂, on_err}
use Rattle.trace_replay.proofs.calling.calloc.Goals as goal

pub returns-clause-keeps : goal.returns-clause-keeps
returns-clause-keeps g c =
    if_ok _ _ c.calloc.result (λ reply q. q.keeps)
    (quiet_call g.K.Kernel.port c.args.t.now c.args.line c.args.name (calloc_call c.args.t.now (number_of c.ready.new.self) c.args.name c.args.n c.args.size (own_of c.ready.new.self)) c.args.thread.now c.ready.new.self c.calloc.new.self c.args.serial.now c.calloc.new.p
    (KeepsOthers c.args.name (names_of c.ready.new.self)) c.calloc.result c.in_ok-ready.ensures.ok c.calloc.ensures.number (calloc_keeps c.args.t.now (number_of c.ready.new.self) c.args.name c.args.n c.args.size (own_of c.ready.new.self))
    c.calloc.ensures.carries c.calloc.ensures.does)

pub returns-clause-names : goal.returns-clause-names
returns-clause-names g c =
    if_ok₂ _ _ _ c.calloc.result
    (λ reply q fits. makes_bytes c.args.thread.now c.ready.new.self c.calloc.new.self c.args.name (c.args.n * c.args.size) reply c.in_ok-ready.ensures.ok q.result fits)
    (quiet_call g.K.Kernel.port c.args.t.now c.args.line c.args.name (calloc_call c.args.t.now (number_of c.ready.new.self) c.args.name c.args.n c.args.size (own_of c.ready.new.self)) c.args.thread.now c.ready.new.self c.calloc.new.self c.args.serial.now c.calloc.new.p
    (KeepsOthers c.args.name (names_of c.ready.new.self)) c.calloc.result c.in_ok-ready.ensures.ok c.calloc.ensures.number (calloc_keeps c.args.t.now (number_of c.ready.new.self) c.args.name c.args.n c.args.size (own_of c.ready.new.self))
    c.calloc.ensures.carries c.calloc.ensures.does)
    c.calloc.ensures.fits

pub returns-clause-trays : goal.returns-clause-trays
returns-clause-trays g c =
    if_ok _ _ c.calloc.result (λ reply q. q.trays)
    (quiet_call g.K.Kernel.port c.args.t.now c.args.line c.args.name (calloc_call c.args.t.now (number_of c.ready.new.self) c.args.name c.args.n c.args.size (own_of c.ready.new.self)) c.args.thread.now c.ready.new.self c.calloc.new.self c.args.serial.now c.calloc.new.p
    (KeepsOthers c.args.name (names_of c.ready.new.self)) c.calloc.result c.in_ok-ready.ensures.ok c.calloc.ensures.number (calloc_keeps c.args.t.now (number_of c.ready.new.self) c.args.name c.args.n c.args.size (own_of c.ready.new.self))
    c.calloc.ensures.carries c.calloc.ensures.does)

pub calloc-requires-clause-room : goal.calloc-requires-clause-room
calloc-requires-clause-room g c = λ κs within. room_there c.args.thread.now c.ready.new.self c.args.name c.in_ok-ready.ensures.ok

pub calloc-requires-clause-empty : goal.calloc-requires-clause-empty
calloc-requires-clause-empty g c = λ κs within. nothing_there c.args.thread.now c.ready.new.self c.args.name c.in_ok-ready.ensures.ok c.requires.free

pub calloc-requires-clause-served : goal.calloc-requires-clause-served
calloc-requires-clause-served g c = λ κs within.
    served_there c.args.t.now c.args.thread.now c.ready.new.self c.args.serial.now c.args.name c.in_ok-ready.ensures.ok c.requires.served

pub returns-in_err-ready-clause-left : goal.returns-in_err-ready-clause-left
returns-in_err-ready-clause-left g c =
    on_err c.from_residual.result (inl (no_place c.args.name (Calloc c.args.name c.args.n c.args.size) c.args.thread.now c.ready.new.self c.args.serial.now refl c.in_err-ready.ensures.full c.in_err-ready.ensures.err))

pub returns-clause-left : goal.returns-clause-left
returns-clause-left g c =
    left_there g.K.Kernel.port c.args.t.now c.args.line c.args.name (Calloc c.args.name c.args.n c.args.size) (λ (x : Thread _). calloc_call c.args.t.now (number_of x) c.args.name c.args.n c.args.size (own_of x))
    c.args.thread.now c.ready.new.self c.calloc.new.self c.args.serial.now c.calloc.new.p c.calloc.result c.in_ok-ready.ensures.ok refl refl c.calloc.ensures.left
    (on_err_weaker c.calloc.result (names_same c.args.name (names_of c.ready.new.self) (names_of c.calloc.new.self)) c.calloc.ensures.names)
