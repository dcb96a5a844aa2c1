use Rattle.std.proofs.Common.{◌≡◌, ◌∙◌, sym, ap, refl, Some, length, subst, arith}
use Rattle.consolidate_trim.specs.Holds.{one_chunk}
use Rattle.arena_core.specs.Replay.{chunk_at}
use Rattle.arena_holds.proofs.PortWalking.{port_walks}
use Rattle.std.specs.Prelude.{option_map}
use Rattle.consolidate_trim.specs.Outside.{means}
use Rattle.arena_core.specs.Arenas.{held}
use Rattle.arena_holds.specs.Places.{setting, kept_of, both_of, in_cache}
use Rattle.arena_holds.proofs.Holds.{ready, backed_beside, left_resized, is_return, in_hand_resized, unsized_walks}
use Rattle.arena_holds.proofs.Taken.{resizes_held, resizes_short, structure_resized, structure_unresized}
use Rattle.arena_holds.proofs.RunningShort.{short_resize}
use Rattle.arena_holds.proofs.holding.resize_held.Goals as goal

pub lock-hold-requires : goal.lock-hold-requires
lock-hold-requires g c = record { there = g.met.P.Places.laws.known c.args.p.now c.args.b (in_cache c.args.cache.now) c.args.a c.requires.served.served c.requires.arena }

pub resize-done-requires-clause-ready : goal.resize-done-requires-clause-ready
resize-done-requires-clause-ready g c κs within =
    let k = kept_of g.P.Ground.Moves.plain c.unwrap-arena.result in
    let m = means g.P.Hold.FastPort.fast g.P.Hold.Dials.dials g.K.Kernel.port in
    let e : c.lock-hold.result.1 ≡ Some c.unwrap-arena.result = cc in
    let lent = subst (λ o. g.P.Places.ways.lent c.args.p.now c.args.a c.lock-hold.result.0 (option_map (kept_of g.P.Ground.Moves.plain) o) c.lock-hold.new.self) e c.lock-hold.ensures.lent in
    ready m refl (g.met.P.Places.laws.lends c.args.p.now c.lock-hold.new.self c.args.a c.lock-hold.result.0 k lent) c.requires.served c.args.cache.now

pub resize-done-requires-clause-backed : goal.resize-done-requires-clause-backed
resize-done-requires-clause-backed g c κs within =
    let k = kept_of g.P.Ground.Moves.plain c.unwrap-arena.result in
    let e : c.lock-hold.result.1 ≡ Some c.unwrap-arena.result = cc in
    let lent = subst (λ o. g.P.Places.ways.lent c.args.p.now c.args.a c.lock-hold.result.0 (option_map (kept_of g.P.Ground.Moves.plain) o) c.lock-hold.new.self) e c.lock-hold.ensures.lent in
    backed_beside c.args.b (in_cache c.args.cache.now) c.requires.arena (g.met.P.Places.laws.lends c.args.p.now c.lock-hold.new.self c.args.a c.lock-hold.result.0 k lent) c.requires.served

pub returns-in-Ok-clause-resizes : goal.returns-in-Ok-clause-resizes
returns-in-Ok-clause-resizes g c =
    let plain = g.P.Ground.Moves.plain in
    let e : c.lock-hold.result.1 ≡ Some c.unwrap-arena.result = cc in
    let lent = subst (λ o. g.P.Places.ways.lent c.args.p.now c.args.a c.lock-hold.result.0 (option_map (kept_of plain) o) c.lock-hold.new.self) e c.lock-hold.ensures.lent in
    let at : c.len-place.result ≡ length c.unwrap-arena.result.journal.items = omega (arith, c.len-place.ensures) in
    rw at
    (resizes_held (setting g.P.Places.ways (means g.P.Hold.FastPort.fast g.P.Hold.Dials.dials g.K.Kernel.port) g.P.Dial.Dials.dials) g.P.Dial.Dials.dials c.args.b
    (kept_of plain c.unwrap-arena.result) (kept_of plain c.resize-done.new.a) c.in-Ok.resized g.met.P.Places.laws c.laws.ensures c.laws-2.ensures c.requires.held c.requires.arena c.requires.served lent
    c.unlock.ensures.gave (c.unlock.ensures.unlocked c.args.p.now c.args.a c.lock-hold.result.0 (kept_of plain c.unwrap-arena.result) lent (port_walks {m = means g.P.Hold.FastPort.fast g.P.Hold.Dials.dials g.K.Kernel.port} c.in-Ok.ensures.resized.records.walks.walks)) c.in-Ok.ensures.resized c.in-Ok.ensures.fits c.in-Ok.ensures.refused)

pub returns-in-Err-clause-short : goal.returns-in-Err-clause-short
returns-in-Err-clause-short g c =
    let plain = g.P.Ground.Moves.plain in
    let e : c.lock-hold.result.1 ≡ Some c.unwrap-arena.result = cc in
    let lent = subst (λ o. g.P.Places.ways.lent c.args.p.now c.args.a c.lock-hold.result.0 (option_map (kept_of plain) o) c.lock-hold.new.self) e c.lock-hold.ensures.lent in
    let back : c.in-Err.short.back ≡ Some c.unwrap.result = cc in
    resizes_short (setting g.P.Places.ways (means g.P.Hold.FastPort.fast g.P.Hold.Dials.dials g.K.Kernel.port) g.P.Dial.Dials.dials) g.P.Dial.Dials.dials c.args.b c.unwrap.result
    (kept_of plain c.unwrap-arena.result) (kept_of plain c.resize-done.new.a) g.met.P.Places.laws c.laws.ensures c.laws-2.ensures c.requires.held c.requires.arena c.requires.served lent
    (c.unlock.ensures.unlocked c.args.p.now c.args.a c.lock-hold.result.0 (kept_of plain c.unwrap-arena.result) lent (unsized_walks (means g.P.Hold.FastPort.fast g.P.Hold.Dials.dials g.K.Kernel.port) c.args.t.now c.args.who.now c.args.b c.args.nb (held (plain c.unwrap-arena.result.ground.value) c.lock-hold.result.0 c.args.cache.now c.args.space.now c.unwrap-arena.result.journal.items) (held (plain c.resize-done.new.a.ground.value) c.resize-done.new.port c.resize-done.new.cache c.resize-done.new.space c.resize-done.new.a.journal.items) c.in-Err.short.back c.in-Err.ensures.short)) (rw back at c.in-Err.ensures.short) (rw back at c.in-Err.ensures.enough)

pub returns-in-Ok-clause-structure : goal.returns-in-Ok-clause-structure
returns-in-Ok-clause-structure g c = structure_resized c.in-Ok.ensures.resized

pub returns-in-Err-clause-structure : goal.returns-in-Err-clause-structure
returns-in-Err-clause-structure g c = structure_unresized _ _ _ c.args.b c.args.nb _ _ c.in-Err.short.back c.in-Err.ensures.short

pub unlock-requires : goal.unlock-requires
unlock-requires g c =
    let plain = g.P.Ground.Moves.plain in
    let laws = g.met.P.Places.laws in
    let m = means g.P.Hold.FastPort.fast g.P.Hold.Dials.dials g.K.Kernel.port in
    let k = kept_of plain c.unwrap-arena.result in
    let k' = kept_of plain c.resize-done.new.a in
    let e : c.lock-hold.result.1 ≡ Some c.unwrap-arena.result = cc in
    let lent = subst (λ o. g.P.Places.ways.lent c.args.p.now c.args.a c.lock-hold.result.0 (option_map (kept_of plain) o) c.lock-hold.new.self) e c.lock-hold.ensures.lent in
    let is = laws.lends c.args.p.now c.lock-hold.new.self c.args.a c.lock-hold.result.0 k lent in
    record {
      lent = is_return g.P.Places.ways m g.P.Dial.Dials.dials c.args.p.now c.lock-hold.new.self c.args.a c.lock-hold.result.0 c.resize-done.new.port c.args.cache.now c.resize-done.new.cache c.args.space.now c.resize-done.new.space k k' c.args.t.now c.args.who.now
          (one_chunk (chunk_at c.args.b.addr c.args.b.size)) (both_of (λ weigh. weigh c.args.b) (in_cache c.args.cache.now)) c.requires.writer laws lent c.requires.served.tunables c.requires.served.served
          (λ x. in_hand_resized k.arena.number c.args.b c.args.cache.now x (c.requires.arena ∙ ap Some (sym is.number)))
          (left_resized m c.args.t.now c.args.who.now c.args.b c.args.nb (held k.arena c.lock-hold.result.0 c.args.cache.now c.args.space.now k.journal)
          (held k'.arena c.resize-done.new.port c.resize-done.new.cache c.resize-done.new.space k'.journal) c.resize-done.result is.sound is.placed c.resize-done.ensures.resized c.resize-done.ensures.short)
          c.resize-done.ensures.replay;
    }

pub returns-in-Err-clause-left : goal.returns-in-Err-clause-left
returns-in-Err-clause-left g c =
    let plain = g.P.Ground.Moves.plain in
    let e : c.lock-hold.result.1 ≡ Some c.unwrap-arena.result = cc in
    let lent = subst (λ o. g.P.Places.ways.lent c.args.p.now c.args.a c.lock-hold.result.0 (option_map (kept_of plain) o) c.lock-hold.new.self) e c.lock-hold.ensures.lent in
    short_resize (setting g.P.Places.ways (means g.P.Hold.FastPort.fast g.P.Hold.Dials.dials g.K.Kernel.port) g.P.Dial.Dials.dials) c.args.b c.args.nb c.resize-done.new.cache
    (kept_of plain c.unwrap-arena.result) (kept_of plain c.resize-done.new.a) c.in-Err.short.back lent c.unlock.ensures.gave c.in-Err.ensures.short
