use Rattle.std.proofs.Common.{◌≡◌, length, arith}
use Rattle.consolidate_trim.specs.Holds.{no_chunk}
use Rattle.arena_holds.proofs.PortWalking.{port_walks}
use Rattle.consolidate_trim.specs.Outside.{means}
use Rattle.arena_core.specs.Arenas.{held}
use Rattle.arena_holds.specs.Places.{setting, kept_of, in_cache}
use Rattle.arena_holds.proofs.Holds.{left_searched, is_return, in_hand_searched, fails_walks}
use Rattle.arena_holds.proofs.Taken.{searches_held, searches_short, structure_searched, structure_short}
use Rattle.arena_holds.proofs.RunningShort.{short_search}
use Rattle.arena_holds.proofs.holding.search_lent.Goals as goal

pub returns-in-Ok-clause-searches : goal.returns-in-Ok-clause-searches
returns-in-Ok-clause-searches g c = λ places a l.
    let plain = g.P.Ground.Moves.plain in
    let at : c.len-place.result ≡ length c.args.arena.journal.items = omega (arith, c.len-place.ensures) in
    rw at
    (searches_held (setting g.P.Places.ways (means g.P.Hold.FastPort.fast g.P.Hold.Dials.dials g.K.Kernel.port) g.P.Dial.Dials.dials) g.P.Dial.Dials.dials
    (kept_of plain c.args.arena) (kept_of plain c.search_arena-searched.new.a) c.in-Ok.block g.met.P.Places.laws c.laws.ensures c.laws-2.ensures c.requires.act l.served l.lent
    c.unlock.ensures.gave (c.unlock.ensures.unlocked places a c.args.hold (kept_of plain c.args.arena) l.lent (port_walks {m = means g.P.Hold.FastPort.fast g.P.Hold.Dials.dials g.K.Kernel.port} c.in-Ok.ensures.searches.records.walks.walks)) c.in-Ok.ensures.searches)

pub returns-in-Err-clause-short : goal.returns-in-Err-clause-short
returns-in-Err-clause-short g c = λ places a l.
    let plain = g.P.Ground.Moves.plain in
    searches_short (setting g.P.Places.ways (means g.P.Hold.FastPort.fast g.P.Hold.Dials.dials g.K.Kernel.port) g.P.Dial.Dials.dials) g.P.Dial.Dials.dials c.args.act.now
    (kept_of plain c.args.arena) (kept_of plain c.search_arena-searched.new.a) g.met.P.Places.laws c.laws.ensures c.laws-2.ensures l.lent
    (c.unlock.ensures.unlocked places a c.args.hold (kept_of plain c.args.arena) l.lent (fails_walks (means g.P.Hold.FastPort.fast g.P.Hold.Dials.dials g.K.Kernel.port) c.in-Err.ensures.short)) c.requires.act c.in-Err.ensures.short

pub returns-in-Ok-clause-structure : goal.returns-in-Ok-clause-structure
returns-in-Ok-clause-structure g c = structure_searched c.in-Ok.ensures.searches

pub returns-in-Err-clause-structure : goal.returns-in-Err-clause-structure
returns-in-Err-clause-structure g c = structure_short c.in-Err.ensures.short

pub returns-in-Err-clause-left : goal.returns-in-Err-clause-left
returns-in-Err-clause-left g c = λ places a l.
    let plain = g.P.Ground.Moves.plain in
    short_search (setting g.P.Places.ways (means g.P.Hold.FastPort.fast g.P.Hold.Dials.dials g.K.Kernel.port) g.P.Dial.Dials.dials)
    (kept_of plain c.args.arena) (kept_of plain c.search_arena-searched.new.a) (length c.args.arena.journal.items) c.args.arena.journal.capacity l.lent c.unlock.ensures.gave
    c.in-Err.ensures.short c.in-Err.ensures.full

pub unlock-requires : goal.unlock-requires
unlock-requires g c =
    let plain = g.P.Ground.Moves.plain in
    let laws = g.met.P.Places.laws in
    let m = means g.P.Hold.FastPort.fast g.P.Hold.Dials.dials g.K.Kernel.port in
    let k = kept_of plain c.args.arena in
    let k' = kept_of plain c.search_arena-searched.new.a in
    let places = c.requires.lent.0 in
    let a = c.requires.lent.1 in
    let l = c.requires.lent.2 in
    let is = laws.lends places c.args.p.now a c.args.hold k l.lent in
    record {
      lent = is_return g.P.Places.ways m g.P.Dial.Dials.dials places c.args.p.now a c.args.hold c.search_arena-searched.new.port c.args.cache.now c.search_arena-searched.new.cache c.args.space.now c.search_arena-searched.new.space k k' c.args.t.now c.args.who.now
          no_chunk (in_cache c.args.cache.now) l.writes laws l.lent l.served.tunables l.served.served
          (λ x. in_hand_searched k.arena.number c.args.cache.now x)
          (left_searched m c.args.t.now c.args.who.now c.args.act.now (held k.arena c.args.hold c.args.cache.now c.args.space.now k.journal)
          (held k'.arena c.search_arena-searched.new.port c.search_arena-searched.new.cache c.search_arena-searched.new.space k'.journal) c.search_arena-searched.result is.sound is.placed
          c.search_arena-searched.ensures.searches c.search_arena-searched.ensures.short)
          c.search_arena-searched.ensures.replay;
    }
