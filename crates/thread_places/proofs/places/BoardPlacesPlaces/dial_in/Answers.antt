use Rattle.std.proofs.Common.{rules}
use Rattle.std.specs.Prelude.{option_map}
use Rattle.thread_places.specs.BoardWays.{state_at}
use Rattle.thread_places.specs.BoardLaws.{words_back}
use Rattle.thread_places.proofs.places.BoardPlacesPlaces.dial_in.Goals as goal

pub returns-clause-returned : goal.returns-clause-returned
returns-clause-returned g c = λ places first steps out walk.
    let b = g.met.B.BoardPass in
    words_back (λ p. state_at (option_map g.B.BoardPass.view p.pass) p.polls p.who) g.B.BoardPass.seen g.B.Held.FastPort.fast g.B.Held.Dials.dials g.B.BoardPass.words g.B.Words.Dials.dials
    (record { fast_steps = b.fast_steps; fast_idles = b.fast_idles; held_words = b.held_words; may_map = b.may_map; apart = b.held_apart; word_steps = b.word_steps; may_words = b.may_words; are_words = b.are_words })
    places c.args.self.now _ first c.args.d steps out walk (search rules)
