use Rattle.std.proofs.Common.{rules, refl, sym, ap, ◌≡◌, ◌∙◌, subst}
use Rattle.std.specs.Prelude.{option_map, ℕ, List, true}
use Rattle.arena_choice.specs.Numbers.{has}
use Rattle.arena_choice.specs.Books.{BookValue}
use Rattle.board_types.specs.Flat.{FlatView}
use Rattle.arena_holds.specs.BookChanges.{Leaves}
use Rattle.thread_places.specs.BoardWays.{state_at}
use Rattle.thread_places.specs.BoardLaws.{booked_by, pass_here, detached_kept, detached_list}
use Rattle.thread_places.proofs.places.BoardPlacesPlaces.leave.Goals as goal

pub returns : goal.returns
returns g c =
    let view = g.B.BoardPass.view in
    let v : FlatView = view c.in-Some.pass in
    booked_by (λ p. state_at (option_map view p.pass) p.polls p.who) g.B.BoardPass.seen g.B.Held.FastPort.fast g.B.BoardPass.words c.args.self.now _ v (view c.book_in.result) c.book_out-desk.result.1 c.detach.new.self (Leaves c.args.thread)
    (pass_here view c.args.self.now.pass c.in-Some.pass (search rules)) refl c.book_out-desk.ensures.book (search rules) c.detach.ensures (ap (λ x. x.kept) c.detach.ensures ∙ detached_kept c.book_out-desk.result.1 c.args.thread)

pub book_in-requires : goal.book_in-requires
book_in-requires g c = λ n h.
    let b = c.book_out-desk.result.1 in
    let e : c.detach.new.self.list ≡ b.list = ap (λ x. x.list) c.detach.ensures ∙ detached_list b c.args.thread in
    let was : has n b.list ≡ true = subst (λ (x : BookValue). has n x.list ≡ true) c.book_out-desk.ensures.found h in
    subst (λ (xs : List ℕ). has n xs ≡ true) (sym e) was
