use Rattle.std.proofs.Common.{refl, inl}
use Rattle.std.proofs.lemmas.Result.{on_err_weaker}
use Rattle.malloc_calls.specs.declared.thread.Thread.{Thread}
use Rattle.trace_text.specs.declared.trace.Call.TheVariants.{Realloc}
use Rattle.trace_replay.proofs.LeftThere.{no_place, left_there, names_but}
use Rattle.own_blocks.specs.declared.reply.Reply.TheVariants.{NotYours}
use Rattle.trace_replay.proofs.Keeping.{served_there}
use Rattle.malloc_calls.specs.Threads.{own_of, names_of, number_of}
use Rattle.malloc_calls.specs.Reallocs.{realloc_call}
use Rattle.trace_replay.proofs.CallResults.{LeavesName, realloc_keeps}
use Rattle.trace_replay.proofs.HeldNames.{resizes_name}
use Rattle.trace_replay.proofs.QuietCalls.{quiet_call}
use Rattle.trace_replay.proofs.Results.{if_ok, if_ok₂, on_err, on_err_not}
use Rattle.trace_replay.proofs.calling.realloc.Goals as goal

pub returns-clause-keeps : goal.returns-clause-keeps
returns-clause-keeps g c =
    if_ok _ _ c.realloc.result (λ reply q. q.keeps)
    (quiet_call g.K.Kernel.port c.args.t.now c.args.line c.args.name (realloc_call c.args.t.now (number_of c.ready.new.self) c.args.name c.args.size (own_of c.ready.new.self)) c.args.thread.now c.ready.new.self c.realloc.new.self c.args.serial.now c.realloc.new.p
    (LeavesName c.args.name c.args.size (names_of c.ready.new.self)) c.realloc.result c.in_ok-ready.ensures.ok c.realloc.ensures.number (realloc_keeps c.args.t.now (number_of c.ready.new.self) c.args.name c.args.size (own_of c.ready.new.self))
    c.realloc.ensures.carries c.realloc.ensures.does)

pub returns-clause-names : goal.returns-clause-names
returns-clause-names g c =
    if_ok₂ _ _ _ c.realloc.result
    (λ reply q fits.
    resizes_name c.args.thread.now c.ready.new.self c.realloc.new.self c.args.name c.args.size reply c.in_ok-ready.ensures.ok q.result c.realloc.ensures.others fits)
    (quiet_call g.K.Kernel.port c.args.t.now c.args.line c.args.name (realloc_call c.args.t.now (number_of c.ready.new.self) c.args.name c.args.size (own_of c.ready.new.self)) c.args.thread.now c.ready.new.self c.realloc.new.self c.args.serial.now c.realloc.new.p
    (LeavesName c.args.name c.args.size (names_of c.ready.new.self)) c.realloc.result c.in_ok-ready.ensures.ok c.realloc.ensures.number (realloc_keeps c.args.t.now (number_of c.ready.new.self) c.args.name c.args.size (own_of c.ready.new.self))
    c.realloc.ensures.carries c.realloc.ensures.does)
    c.realloc.ensures.fits

pub returns-clause-trays : goal.returns-clause-trays
returns-clause-trays g c =
    if_ok _ _ c.realloc.result (λ reply q. q.trays)
    (quiet_call g.K.Kernel.port c.args.t.now c.args.line c.args.name (realloc_call c.args.t.now (number_of c.ready.new.self) c.args.name c.args.size (own_of c.ready.new.self)) c.args.thread.now c.ready.new.self c.realloc.new.self c.args.serial.now c.realloc.new.p
    (LeavesName c.args.name c.args.size (names_of c.ready.new.self)) c.realloc.result c.in_ok-ready.ensures.ok c.realloc.ensures.number (realloc_keeps c.args.t.now (number_of c.ready.new.self) c.args.name c.args.size (own_of c.ready.new.self))
    c.realloc.ensures.carries c.realloc.ensures.does)

pub realloc-requires-clause-served : goal.realloc-requires-clause-served
realloc-requires-clause-served g c = λ κs within.
    served_there c.args.t.now c.args.thread.now c.ready.new.self c.args.serial.now c.args.name c.in_ok-ready.ensures.ok c.requires.served

pub returns-in_err-ready-clause-left : goal.returns-in_err-ready-clause-left
returns-in_err-ready-clause-left g c =
    on_err c.from_residual.result (inl (no_place c.args.name (Realloc c.args.name c.args.size) c.args.thread.now c.ready.new.self c.args.serial.now refl c.in_err-ready.ensures.full c.in_err-ready.ensures.err))

pub returns-clause-left : goal.returns-clause-left
returns-clause-left g c =
    left_there g.K.Kernel.port c.args.t.now c.args.line c.args.name (Realloc c.args.name c.args.size) (λ (x : Thread _). realloc_call c.args.t.now (number_of x) c.args.name c.args.size (own_of x))
    c.args.thread.now c.ready.new.self c.realloc.new.self c.args.serial.now c.realloc.new.p c.realloc.result c.in_ok-ready.ensures.ok refl refl c.realloc.ensures.left
    (on_err_weaker c.realloc.result (λ some. names_but c.args.name (names_of c.ready.new.self) (names_of c.realloc.new.self) (λ none. absurd (some none)) c.realloc.ensures.others)
    (on_err_not c.realloc.result NotYours c.realloc.ensures.none))
