use Rattle.std.proofs.Common.{rules, refl, ap}
use Rattle.std.specs.Prelude.{option_map}
use Rattle.board_types.specs.Flat.{FlatView}
use Rattle.arena_holds.specs.BookChanges.{Reuses}
use Rattle.thread_places.specs.BoardWays.{state_at}
use Rattle.thread_places.specs.BoardLaws.{booked_by, pass_here, listed_found}
use Rattle.thread_places.proofs.places.BoardPlacesPlaces.reuse.Goals as goal

pub returns : goal.returns
returns g c =
    let view = g.B.BoardPass.view in
    let v : FlatView = view c.in-Some.pass in
    booked_by (λ p. state_at (option_map view p.pass) p.polls p.who) g.B.BoardPass.seen g.B.Held.FastPort.fast g.B.BoardPass.words c.args.self.now _ v (view c.book_in.result) c.book_out-desk.result.1 c.reused.new.self (Reuses c.args.thread c.args.a)
    (pass_here view c.args.self.now.pass c.in-Some.pass (search rules)) refl c.book_out-desk.ensures.book (search rules) c.reused.ensures (ap (λ x. x.kept) c.reused.ensures)

pub reused-requires : goal.reused-requires
reused-requires g c =
    let view = g.B.BoardPass.view in
    listed_found _ (view c.in-Some.pass) c.book_out-desk.result.1 c.args.a (pass_here view c.args.self.now.pass c.in-Some.pass (search rules)) c.requires.listed c.book_out-desk.ensures.book
