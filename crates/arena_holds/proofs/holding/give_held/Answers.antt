use Rattle.std.proofs.Common.{◌≡◌, ◌∙◌, sym, ap, Some, None, length, subst, arith}
use Rattle.consolidate_trim.specs.Holds.{one_chunk}
use Rattle.arena_core.specs.Replay.{chunk_at}
use Rattle.arena_holds.proofs.PortWalking.{port_walks}
use Rattle.std.specs.Prelude.{option_map}
use Rattle.consolidate_trim.specs.Outside.{means}
use Rattle.arena_core.specs.Arenas.{held}
use Rattle.arena_holds.specs.Places.{setting, kept_of, both_of}
use Rattle.arena_holds.proofs.Holds.{backed, left_given, is_return, in_hand_given, gives_walks}
use Rattle.arena_holds.proofs.Taken.{gives_held, gives_short}
use Rattle.arena_holds.proofs.holding.give_held.Goals as goal

pub lock-hold-requires : goal.lock-hold-requires
lock-hold-requires g c = record {
  there =
      let laws = g.met.P.Places.laws in
      laws.known c.args.p.now c.args.b (λ _. 0) c.args.a
      (laws.same _ c.args.p.now (λ weigh. weigh c.args.b) (both_of (λ weigh. weigh c.args.b) (λ _. 0)) (λ w. omega arith) c.requires.served.served) c.requires.arena;
}

pub give-gave-requires-clause-backed : goal.give-gave-requires-clause-backed
give-gave-requires-clause-backed g c κs within =
    let k = kept_of g.P.Ground.Moves.plain c.unwrap-arena.result in
    let e : c.lock-hold.result.1 ≡ Some c.unwrap-arena.result = cc in
    let lent = subst (λ o. g.P.Places.ways.lent c.args.p.now c.args.a c.lock-hold.result.0 (option_map (kept_of g.P.Ground.Moves.plain) o) c.lock-hold.new.self) e c.lock-hold.ensures.lent in
    backed c.args.b c.requires.arena (g.met.P.Places.laws.lends c.args.p.now c.lock-hold.new.self c.args.a c.lock-hold.result.0 k lent) c.requires.served

pub returns-in-Ok-clause-gives : goal.returns-in-Ok-clause-gives
returns-in-Ok-clause-gives g c = λ cache.
    let plain = g.P.Ground.Moves.plain in
    let e : c.lock-hold.result.1 ≡ Some c.unwrap-arena.result = cc in
    let lent = subst (λ o. g.P.Places.ways.lent c.args.p.now c.args.a c.lock-hold.result.0 (option_map (kept_of plain) o) c.lock-hold.new.self) e c.lock-hold.ensures.lent in
    let at : c.len-place.result ≡ length c.unwrap-arena.result.journal.items = omega (arith, c.len-place.ensures) in
    rw at
    (gives_held (setting g.P.Places.ways (means g.P.Hold.FastPort.fast g.P.Hold.Dials.dials g.K.Kernel.port) g.P.Dial.Dials.dials) g.P.Dial.Dials.dials c.args.b
    (kept_of plain c.unwrap-arena.result) (kept_of plain c.give-gave.new.self) g.met.P.Places.laws c.requires.arena lent
    c.unlock.ensures.gave (c.unlock.ensures.unlocked c.args.p.now c.args.a c.lock-hold.result.0 (kept_of plain c.unwrap-arena.result) lent (port_walks {m = means g.P.Hold.FastPort.fast g.P.Hold.Dials.dials g.K.Kernel.port} (c.in-Ok.ensures.given None).walks.walks)) (λ cache. c.in-Ok.ensures.given cache) cache)

pub returns-in-Err-clause-short : goal.returns-in-Err-clause-short
returns-in-Err-clause-short g c =
    let plain = g.P.Ground.Moves.plain in
    let e : c.lock-hold.result.1 ≡ Some c.unwrap-arena.result = cc in
    let lent = subst (λ o. g.P.Places.ways.lent c.args.p.now c.args.a c.lock-hold.result.0 (option_map (kept_of plain) o) c.lock-hold.new.self) e c.lock-hold.ensures.lent in
    gives_short (setting g.P.Places.ways (means g.P.Hold.FastPort.fast g.P.Hold.Dials.dials g.K.Kernel.port) g.P.Dial.Dials.dials) g.P.Dial.Dials.dials c.args.t.now c.args.who.now c.args.b
    (kept_of plain c.unwrap-arena.result) (kept_of plain c.give-gave.new.self) c.in-Err.short.back g.met.P.Places.laws c.requires.arena lent c.unlock.ensures.gave
    (c.unlock.ensures.unlocked c.args.p.now c.args.a c.lock-hold.result.0 (kept_of plain c.unwrap-arena.result) lent (gives_walks (means g.P.Hold.FastPort.fast g.P.Hold.Dials.dials g.K.Kernel.port) c.args.t.now c.args.who.now c.args.b (held (plain c.unwrap-arena.result.ground.value) c.lock-hold.result.0 None c.args.space.now c.unwrap-arena.result.journal.items) (held (plain c.give-gave.new.self.ground.value) c.give-gave.new.port None c.give-gave.new.space c.give-gave.new.self.journal.items) c.in-Err.short.back (c.in-Err.ensures.short None))) (λ cache. c.in-Err.ensures.short cache)

pub unlock-requires : goal.unlock-requires
unlock-requires g c =
    let plain = g.P.Ground.Moves.plain in
    let laws = g.met.P.Places.laws in
    let m = means g.P.Hold.FastPort.fast g.P.Hold.Dials.dials g.K.Kernel.port in
    let k = kept_of plain c.unwrap-arena.result in
    let k' = kept_of plain c.give-gave.new.self in
    let e : c.lock-hold.result.1 ≡ Some c.unwrap-arena.result = cc in
    let lent = subst (λ o. g.P.Places.ways.lent c.args.p.now c.args.a c.lock-hold.result.0 (option_map (kept_of plain) o) c.lock-hold.new.self) e c.lock-hold.ensures.lent in
    let is = laws.lends c.args.p.now c.lock-hold.new.self c.args.a c.lock-hold.result.0 k lent in
    record {
      lent = is_return g.P.Places.ways m g.P.Dial.Dials.dials c.args.p.now c.lock-hold.new.self c.args.a c.lock-hold.result.0 c.give-gave.new.port None None c.args.space.now c.give-gave.new.space k k' c.args.t.now c.args.who.now
          (one_chunk (chunk_at c.args.b.addr c.args.b.size)) (λ weigh. weigh c.args.b) c.requires.writer laws lent c.requires.served.tunables c.requires.served.served
          (λ x. in_hand_given k.arena.number c.args.b x (c.requires.arena ∙ ap Some (sym is.number)))
          (left_given m c.args.t.now c.args.who.now c.args.b (held k.arena c.lock-hold.result.0 None c.args.space.now k.journal)
          (held k'.arena c.give-gave.new.port None c.give-gave.new.space k'.journal) c.give-gave.result is.sound is.placed (c.give-gave.ensures.given None) (c.give-gave.ensures.short None))
          c.give-gave.ensures.replay;
    }
