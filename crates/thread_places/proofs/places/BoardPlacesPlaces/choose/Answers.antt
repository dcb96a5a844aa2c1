use Rattle.std.proofs.Common.{rules, refl, sym, ap, ◌≡◌, ◌∙◌, []}
use Rattle.std.specs.Prelude.{option_map}
use Rattle.board_types.specs.Flat.{FlatView}
use Rattle.board_calls.specs.Holds.{after_book, own_after}
use Rattle.thread_places.specs.BoardWays.{state_at, tunables_in}
use Rattle.thread_places.specs.BoardLaws.{chosen_other, chosen_free, pass_here, same_some}
use Rattle.thread_places.proofs.places.BoardPlacesPlaces.choose.Goals as goal
use Rattle.thread_places.proofs.places.BoardPlacesPlaces.choose.Goals.{in-Free, in_default-choice}

pub returns : goal.returns
returns g c =
    let view = g.B.BoardPass.view in
    let v : FlatView = view c.in-Some.pass in
    let b = c.book_out-desk.result.1 in
    let at = pass_here view c.args.self.now.pass c.in-Some.pass (search rules) in
    let whole = c.requires.whole in
    let own : v.own ≡ [] = ap (λ (x : FlatView). x.own) (same_some v whole.view at whole.at) ∙ whole.is in
    let here : view c.book_in.result ≡ after_book c.match-choice.book (own_after b.kept c.match-choice.book.kept v.own) v = search rules in
    let tuned : c.args.t.now ≡ v.tunables = c.requires.tunables ∙ ap tunables_in at in
    elim c.match-choice.branch [
      | in-Free w ↦ rw w.choice-is
          (chosen_free (λ p. state_at (option_map view p.pass) p.polls p.who) g.B.BoardPass.seen g.B.Held.FastPort.fast g.B.BoardPass.words c.args.self.now _ v (view c.book_in.result) b c.choose-choice.new.self c.match-choice.book
          c.args.thread c.args.fresh c.args.t.now w.in-Free.a at refl tuned c.book_out-desk.ensures.book (sym w.in-Free.is ∙ c.choose-choice.ensures.choice) c.choose-choice.ensures.book (w.book-is ∙ w.attach.ensures)
          (rw w.in-Free.is at c.choose-choice.ensures.usable) here own)
      | in_default-choice w ↦ rw w.choice-is
          (chosen_other (λ p. state_at (option_map view p.pass) p.polls p.who) g.B.BoardPass.seen g.B.Held.FastPort.fast g.B.BoardPass.words c.args.self.now _ v (view c.book_in.result) b c.match-choice.book
          c.args.thread c.args.fresh c.args.t.now c.choose-choice.result at refl tuned c.book_out-desk.ensures.book c.choose-choice.ensures.choice (w.book-is ∙ c.choose-choice.ensures.book)
          (rw w.book-is c.choose-choice.ensures.usable) w.in_default-choice.not-Free here own)
    ]
