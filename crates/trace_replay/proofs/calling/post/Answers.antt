use Rattle.std.proofs.Common.{refl}
use Rattle.trace_text.specs.declared.trace.Call.TheVariants.{Post}
use Rattle.trace_replay.proofs.LeftThere.{no_place}
use Rattle.trace_replay.proofs.Results.{on_err}
use Rattle.std.proofs.Common.{arith}
use Rattle.malloc_calls.specs.Threads.{own_of}
use Rattle.malloc_calls.specs.Trays.{post_call}
use Rattle.trace_replay.proofs.HeldNames.{posts_name}
use Rattle.trace_replay.proofs.Keeping.{keeps_unseen, served_there}
use Rattle.trace_replay.proofs.TrayCalls.{tray_result}
use Rattle.trace_replay.proofs.TrayEnds.{PostEnds, post_ends}
use Rattle.trace_replay.proofs.calling.post.Goals as goal

pub returns-clause-keeps : goal.returns-clause-keeps
returns-clause-keeps g c =
    let own = own_of c.ready.new.self in
    let ts = c.args.serial.now.trays in
    let q = tray_result g.K.Kernel.port c.args.t.now (record { thread = 0; line = 0 }) (post_call c.args.name c.args.tray own) c.ready.new.self c.post.new.self c.args.serial.now c.post.new.p
    (PostEnds c.args.name c.args.tray own ts) c.post.result
    (post_ends c.args.name c.args.tray own ts (omega (arith, c.requires.tray, c.requires.trays)) c.requires.empty) c.post.ensures.does in
    keeps_unseen c.args.thread.now c.ready.new.self c.post.new.self c.args.serial.now c.post.new.p c.args.name c.in_ok-ready.ensures.ok c.post.ensures.number c.post.ensures.space c.post.ensures.unseen q.blocks

pub returns-clause-names : goal.returns-clause-names
returns-clause-names g c =
    let own = own_of c.ready.new.self in
    let ts = c.args.serial.now.trays in
    let q = tray_result g.K.Kernel.port c.args.t.now (record { thread = 0; line = 0 }) (post_call c.args.name c.args.tray own) c.ready.new.self c.post.new.self c.args.serial.now c.post.new.p
    (PostEnds c.args.name c.args.tray own ts) c.post.result
    (post_ends c.args.name c.args.tray own ts (omega (arith, c.requires.tray, c.requires.trays)) c.requires.empty) c.post.ensures.does in
    posts_name c.args.thread.now c.ready.new.self c.post.new.self c.args.name c.args.tray c.post.result ts c.post.new.p.trays c.in_ok-ready.ensures.ok q.names

pub post-requires-clause-served : goal.post-requires-clause-served
post-requires-clause-served g c = λ κs within.
    (served_there c.args.t.now c.args.thread.now c.ready.new.self c.args.serial.now c.args.name c.in_ok-ready.ensures.ok c.requires.served).served

pub returns-in_err-ready-clause-full : goal.returns-in_err-ready-clause-full
returns-in_err-ready-clause-full g c =
    on_err c.from_residual.result (no_place c.args.name (Post c.args.name c.args.tray) c.args.thread.now c.ready.new.self c.args.serial.now refl c.in_err-ready.ensures.full c.in_err-ready.ensures.err)
