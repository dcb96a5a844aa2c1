use Rattle.std.proofs.Common.{refl}
use Rattle.trace_text.specs.declared.trace.Call.TheVariants.{Take}
use Rattle.trace_replay.proofs.LeftThere.{no_place}
use Rattle.trace_replay.proofs.Results.{on_err}
use Rattle.std.proofs.Common.{arith}
use Rattle.malloc_calls.specs.Threads.{own_of, who_of}
use Rattle.malloc_calls.specs.Trays.{take_call}
use Rattle.trace_replay.proofs.HeldNames.{takes_name, nothing_there, room_there}
use Rattle.trace_replay.proofs.Keeping.{keeps_unseen}
use Rattle.trace_replay.proofs.TrayCalls.{tray_result}
use Rattle.trace_replay.proofs.TrayEnds.{TakeEnds, take_ends}
use Rattle.trace_replay.proofs.calling.take.Goals as goal

pub returns-clause-does : goal.returns-clause-does
returns-clause-does g c = λ line. rw c.in_ok-ready.ensures.ok at (c.take.ensures.does c.args.t.now (who_of line c.args.thread.now))

pub returns-clause-keeps : goal.returns-clause-keeps
returns-clause-keeps g c =
    let own = own_of c.ready.new.self in
    let ts = c.args.serial.now.trays in
    let is = c.in_ok-ready.ensures.ok in
    let q = tray_result g.K.Kernel.port c.args.t.now (record { thread = 0; line = 0 }) (take_call c.args.name c.args.tray own) c.ready.new.self c.take.new.self c.args.serial.now c.take.new.p
    (TakeEnds c.args.name c.args.tray own ts) c.take.result
    (take_ends c.args.name c.args.tray own ts (room_there c.args.thread.now c.ready.new.self c.args.name is) (omega (arith, c.requires.tray, c.requires.trays))
    (nothing_there c.args.thread.now c.ready.new.self c.args.name is c.requires.free)) c.take.ensures.does in
    keeps_unseen c.args.thread.now c.ready.new.self c.take.new.self c.args.serial.now c.take.new.p c.args.name is c.take.ensures.number c.take.ensures.space c.take.ensures.unseen q.blocks

pub returns-clause-names : goal.returns-clause-names
returns-clause-names g c =
    let own = own_of c.ready.new.self in
    let ts = c.args.serial.now.trays in
    let is = c.in_ok-ready.ensures.ok in
    let q = tray_result g.K.Kernel.port c.args.t.now (record { thread = 0; line = 0 }) (take_call c.args.name c.args.tray own) c.ready.new.self c.take.new.self c.args.serial.now c.take.new.p
    (TakeEnds c.args.name c.args.tray own ts) c.take.result
    (take_ends c.args.name c.args.tray own ts (room_there c.args.thread.now c.ready.new.self c.args.name is) (omega (arith, c.requires.tray, c.requires.trays))
    (nothing_there c.args.thread.now c.ready.new.self c.args.name is c.requires.free)) c.take.ensures.does in
    takes_name c.args.thread.now c.ready.new.self c.take.new.self c.args.name c.args.tray c.take.result ts c.take.new.p.trays is q.names

pub take-requires-clause-room : goal.take-requires-clause-room
take-requires-clause-room g c = λ κs within. room_there c.args.thread.now c.ready.new.self c.args.name c.in_ok-ready.ensures.ok

pub take-requires-clause-empty : goal.take-requires-clause-empty
take-requires-clause-empty g c = λ κs within. nothing_there c.args.thread.now c.ready.new.self c.args.name c.in_ok-ready.ensures.ok c.requires.free

pub returns-in_err-ready-clause-full : goal.returns-in_err-ready-clause-full
returns-in_err-ready-clause-full g c =
    on_err c.from_residual.result (no_place c.args.name (Take c.args.name c.args.tray) c.args.thread.now c.ready.new.self c.args.serial.now refl c.in_err-ready.ensures.full c.in_err-ready.ensures.err)
