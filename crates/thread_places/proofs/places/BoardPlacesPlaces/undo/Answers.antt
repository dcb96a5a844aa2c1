use Rattle.std.proofs.Common.{rules, refl, sym, ap, ◌≡◌, ◌∙◌}
use Rattle.board_types.specs.Flat.{FlatView}
use Rattle.std.specs.Prelude.{option_map}
use Rattle.thread_places.specs.BoardWays.{state_at}
use Rattle.thread_places.specs.BoardLaws.{undone_by, pass_here, same_some}
use Rattle.thread_places.proofs.places.BoardPlacesPlaces.undo.Goals as goal

pub returns : goal.returns
returns g c =
    let view = g.B.BoardPass.view in
    let v = view c.in-Some.pass in
    let o = c.requires.owed in
    let same : o.view ≡ v = same_some o.view v o.at (pass_here view c.args.self.now.pass c.in-Some.pass (search rules)) in
    undone_by (λ p. state_at (option_map view p.pass) p.polls p.who) g.B.BoardPass.seen g.B.Held.FastPort.fast g.B.BoardPass.words c.args.self.now _ v (view c.book_in.result) c.book_out-desk.result.1 c.args.a
    (pass_here view c.args.self.now.pass c.in-Some.pass (search rules)) refl c.book_out-desk.ensures.book (search rules) (ap (λ (x : FlatView). x.own) (sym same) ∙ o.is)
