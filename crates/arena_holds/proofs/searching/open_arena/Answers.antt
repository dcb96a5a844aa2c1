use Rattle.std.proofs.Common.{refl}
use Rattle.consolidate_trim.specs.Outside.{means}
use Rattle.arena_holds.specs.Places.{setting}
use Rattle.arena_holds.proofs.Opened.{is_new, opens_arena, refuses_arena, short_arena}
use Rattle.arena_holds.proofs.RunningShort.{short_opening}
use Rattle.arena_holds.proofs.searching.open_arena.Goals as goal

pub add-requires : goal.add-requires
add-requires g c =
    let opened = rw c.in-Ok-Some.field-0-is at c.in-Ok-Some.ensures.opened in
    let replay = rw c.in-Ok-Some.field-0-is at c.in-Ok-Some.ensures.replay in
    record {
      new = is_new g.P.Places.ways g.P.Ground.Moves.plain g.K.Kernel.port c.args.t.now c.args.who.now c.args.p.now c.args.a c.args.bytes c.in-Ok-Some.arena.ground.value c.in-Ok-Some.arena.journal.items
          c.args.space.now c.open.new.space c.requires.owed c.requires.writer (g.met.P.Places.laws.owes c.args.p.now c.args.a c.requires.owed).0 c.requires.tunables opened replay;
    }

pub returns-in-Ok-Some-clause-opens : goal.returns-in-Ok-Some-clause-opens
returns-in-Ok-Some-clause-opens g c =
    let opened = rw c.in-Ok-Some.field-0-is at c.in-Ok-Some.ensures.opened in
    opens_arena (setting g.P.Places.ways (means g.P.Hold.FastPort.fast g.P.Hold.Dials.dials g.K.Kernel.port) g.P.Dial.Dials.dials) g.P.Ground.Moves.plain g.met.P.Places.laws.same
    opened c.add.ensures

pub returns-in-Ok-None-clause-opens : goal.returns-in-Ok-None-clause-opens
returns-in-Ok-None-clause-opens g c =
    refuses_arena (setting g.P.Places.ways (means g.P.Hold.FastPort.fast g.P.Hold.Dials.dials g.K.Kernel.port) g.P.Dial.Dials.dials) g.met.P.Places.laws.same (c.in-Ok-None.ensures.refused (rw c.in-Ok-None.field-0-is refl)) c.undo.ensures

pub returns-in-Err-clause-short : goal.returns-in-Err-clause-short
returns-in-Err-clause-short g c = λ hands. short_arena g.met.P.Places.laws.same c.in-Err.ensures.short c.undo-in-Err.ensures hands

pub returns-in-Err-clause-left : goal.returns-in-Err-clause-left
returns-in-Err-clause-left g c = short_opening (setting g.P.Places.ways (means g.P.Hold.FastPort.fast g.P.Hold.Dials.dials g.K.Kernel.port) g.P.Dial.Dials.dials) c.in-Err.ensures.short c.undo-in-Err.ensures
