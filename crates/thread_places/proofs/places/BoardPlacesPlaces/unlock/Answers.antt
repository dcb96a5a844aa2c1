use Rattle.std.proofs.Common.{refl}
use Rattle.std.specs.Prelude.{option_map}
use Rattle.arena_holds.specs.Places.{kept_of}
use Rattle.thread_places.specs.BoardWays.{state_at}
use Rattle.thread_places.specs.BoardLaws.{returns, unlocks}
use Rattle.thread_places.proofs.places.BoardPlacesPlaces.unlock.Goals as goal

pub unlock-requires : goal.unlock-requires
unlock-requires g c =
    let b = g.met.B.BoardPass in
    let r = c.requires.lent in
    let is = returns (λ p. state_at (option_map g.B.BoardPass.view p.pass) p.polls p.who) g.B.BoardPass.seen g.B.Held.FastPort.fast g.B.Held.Dials.dials g.B.BoardPass.words g.B.Words.Dials.dials
    (record { fast_steps = b.fast_steps; fast_idles = b.fast_idles; held_words = b.held_words; may_map = b.may_map; apart = b.held_apart; word_steps = b.word_steps; may_words = b.may_words; are_words = b.are_words })
    c.args.self.now c.args.hold (kept_of g.B.Ground.Moves.plain c.args.arena) r in
    record { returns = (c.args.self.now.who, r.entries, is) }

pub returns-clause-gave : goal.returns-clause-gave
returns-clause-gave g c =
    let b = g.met.B.BoardPass in
    let r = c.requires.lent in
    let is = returns (λ p. state_at (option_map g.B.BoardPass.view p.pass) p.polls p.who) g.B.BoardPass.seen g.B.Held.FastPort.fast g.B.Held.Dials.dials g.B.BoardPass.words g.B.Words.Dials.dials
    (record { fast_steps = b.fast_steps; fast_idles = b.fast_idles; held_words = b.held_words; may_map = b.may_map; apart = b.held_apart; word_steps = b.word_steps; may_words = b.may_words; are_words = b.are_words })
    c.args.self.now c.args.hold (kept_of g.B.Ground.Moves.plain c.args.arena) r in
    record { entries = r.entries; view = g.B.BoardPass.view c.unlock.result; returns = is; unlocked = c.unlock.ensures.unlocked c.args.self.now.who r.entries is; left = refl }

pub returns-clause-unlocked : goal.returns-clause-unlocked
returns-clause-unlocked g c = λ places a port before lent goes.
    let b = g.met.B.BoardPass in
    let r = c.requires.lent in
    let is = returns (λ p. state_at (option_map g.B.BoardPass.view p.pass) p.polls p.who) g.B.BoardPass.seen g.B.Held.FastPort.fast g.B.Held.Dials.dials g.B.BoardPass.words g.B.Words.Dials.dials
    (record { fast_steps = b.fast_steps; fast_idles = b.fast_idles; held_words = b.held_words; may_map = b.may_map; apart = b.held_apart; word_steps = b.word_steps; may_words = b.may_words; are_words = b.are_words })
    c.args.self.now c.args.hold (kept_of g.B.Ground.Moves.plain c.args.arena) r in
    unlocks (λ p. state_at (option_map g.B.BoardPass.view p.pass) p.polls p.who) g.B.BoardPass.seen g.B.Held.FastPort.fast g.B.Held.Dials.dials g.B.BoardPass.words g.B.Words.Dials.dials
    (record { fast_steps = b.fast_steps; fast_idles = b.fast_idles; held_words = b.held_words; may_map = b.may_map; apart = b.held_apart; word_steps = b.word_steps; may_words = b.may_words; are_words = b.are_words })
    places c.args.self.now _ a port c.args.hold before (kept_of g.B.Ground.Moves.plain c.args.arena) lent goes
    (record { entries = r.entries; view = g.B.BoardPass.view c.unlock.result; returns = is; unlocked = c.unlock.ensures.unlocked c.args.self.now.who r.entries is; left = refl })
