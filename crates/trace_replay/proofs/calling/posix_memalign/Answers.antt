use Rattle.std.proofs.Common.{refl, inl}
use Rattle.std.proofs.lemmas.Result.{on_err_weaker}
use Rattle.malloc_calls.specs.declared.thread.Thread.{Thread}
use Rattle.trace_text.specs.declared.trace.Call.TheVariants.{Align}
use Rattle.trace_replay.proofs.LeftThere.{no_place, left_there, names_same}
use Rattle.trace_replay.proofs.Keeping.{served_there}
use Rattle.std.proofs.Common.{◌<◌}
use Rattle.malloc_calls.specs.Threads.{own_of, names_of, number_of}
use Rattle.malloc_calls.specs.Mallocs.{posix_memalign_call, IsAlignedName}
use Rattle.trace_replay.proofs.CallResults.{KeepsOthers, memalign_keeps}
use Rattle.trace_replay.proofs.HeldNames.{makes_aligned, nothing_there, room_there}
use Rattle.trace_replay.proofs.QuietCalls.{quiet_call}
use Rattle.trace_replay.proofs.Results.{if_ok, if_ok₃, ok_later, on_err}
use Rattle.trace_replay.proofs.calling.posix_memalign.Goals as goal

pub returns-clause-keeps : goal.returns-clause-keeps
returns-clause-keeps g c =
    if_ok _ _ c.posix_memalign.result (λ reply q. q.keeps)
    (quiet_call g.K.Kernel.port c.args.t.now c.args.line c.args.name (posix_memalign_call c.args.t.now (number_of c.ready.new.self) c.args.name c.args.align c.args.size (own_of c.ready.new.self)) c.args.thread.now c.ready.new.self c.posix_memalign.new.self c.args.serial.now c.posix_memalign.new.p
    (KeepsOthers c.args.name (names_of c.ready.new.self)) c.posix_memalign.result c.in_ok-ready.ensures.ok c.posix_memalign.ensures.number (memalign_keeps c.args.t.now (number_of c.ready.new.self) c.args.name c.args.align c.args.size (own_of c.ready.new.self))
    c.posix_memalign.ensures.carries c.posix_memalign.ensures.does)

pub returns-clause-names : goal.returns-clause-names
returns-clause-names g c =
    if_ok₃ _ _ _ _ c.posix_memalign.result
    (λ reply q fits aligned. makes_aligned c.args.thread.now c.ready.new.self c.posix_memalign.new.self c.args.name c.args.align c.args.size reply c.in_ok-ready.ensures.ok q.result fits aligned)
    (quiet_call g.K.Kernel.port c.args.t.now c.args.line c.args.name (posix_memalign_call c.args.t.now (number_of c.ready.new.self) c.args.name c.args.align c.args.size (own_of c.ready.new.self)) c.args.thread.now c.ready.new.self c.posix_memalign.new.self c.args.serial.now c.posix_memalign.new.p
    (KeepsOthers c.args.name (names_of c.ready.new.self)) c.posix_memalign.result c.in_ok-ready.ensures.ok c.posix_memalign.ensures.number (memalign_keeps c.args.t.now (number_of c.ready.new.self) c.args.name c.args.align c.args.size (own_of c.ready.new.self))
    c.posix_memalign.ensures.carries c.posix_memalign.ensures.does)
    c.posix_memalign.ensures.fits
    (ok_later (16 < c.args.align) (IsAlignedName c.args.align c.args.name (names_of c.posix_memalign.new.self)) c.posix_memalign.result c.posix_memalign.ensures.aligned)

pub returns-clause-trays : goal.returns-clause-trays
returns-clause-trays g c =
    if_ok _ _ c.posix_memalign.result (λ reply q. q.trays)
    (quiet_call g.K.Kernel.port c.args.t.now c.args.line c.args.name (posix_memalign_call c.args.t.now (number_of c.ready.new.self) c.args.name c.args.align c.args.size (own_of c.ready.new.self)) c.args.thread.now c.ready.new.self c.posix_memalign.new.self c.args.serial.now c.posix_memalign.new.p
    (KeepsOthers c.args.name (names_of c.ready.new.self)) c.posix_memalign.result c.in_ok-ready.ensures.ok c.posix_memalign.ensures.number (memalign_keeps c.args.t.now (number_of c.ready.new.self) c.args.name c.args.align c.args.size (own_of c.ready.new.self))
    c.posix_memalign.ensures.carries c.posix_memalign.ensures.does)

pub posix_memalign-requires-clause-room : goal.posix_memalign-requires-clause-room
posix_memalign-requires-clause-room g c = λ κs within. room_there c.args.thread.now c.ready.new.self c.args.name c.in_ok-ready.ensures.ok

pub posix_memalign-requires-clause-empty : goal.posix_memalign-requires-clause-empty
posix_memalign-requires-clause-empty g c = λ κs within. nothing_there c.args.thread.now c.ready.new.self c.args.name c.in_ok-ready.ensures.ok c.requires.free

pub posix_memalign-requires-clause-served : goal.posix_memalign-requires-clause-served
posix_memalign-requires-clause-served g c = λ κs within.
    served_there c.args.t.now c.args.thread.now c.ready.new.self c.args.serial.now c.args.name c.in_ok-ready.ensures.ok c.requires.served

pub returns-in_err-ready-clause-left : goal.returns-in_err-ready-clause-left
returns-in_err-ready-clause-left g c =
    on_err c.from_residual.result (inl (no_place c.args.name (Align c.args.name c.args.align c.args.size) c.args.thread.now c.ready.new.self c.args.serial.now refl c.in_err-ready.ensures.full c.in_err-ready.ensures.err))

pub returns-clause-left : goal.returns-clause-left
returns-clause-left g c =
    left_there g.K.Kernel.port c.args.t.now c.args.line c.args.name (Align c.args.name c.args.align c.args.size) (λ (x : Thread _). posix_memalign_call c.args.t.now (number_of x) c.args.name c.args.align c.args.size (own_of x))
    c.args.thread.now c.ready.new.self c.posix_memalign.new.self c.args.serial.now c.posix_memalign.new.p c.posix_memalign.result c.in_ok-ready.ensures.ok refl refl c.posix_memalign.ensures.left
    (on_err_weaker c.posix_memalign.result (names_same c.args.name (names_of c.ready.new.self) (names_of c.posix_memalign.new.self)) c.posix_memalign.ensures.names)
