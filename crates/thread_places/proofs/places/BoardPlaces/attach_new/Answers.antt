use Rattle.std.proofs.Common.{rules, refl, ap, ◌≡◌, ◌∙◌, [], ◌∷◌, true, List}
use Rattle.board_types.specs.Views.{Own}
use Rattle.board_types.specs.Flat.{FlatView}
use Rattle.thread_places.specs.BoardLaws.{pass_here, same_some, stored_by}
use Rattle.thread_places.proofs.places.BoardPlaces.attach_new.Goals as goal

pub returns-clause-stored : goal.returns-clause-stored
returns-clause-stored g c =
    let view = g.B.BoardPass.view in
    let v : FlatView = view c.in-Some.pass in
    let w : FlatView = view c.book_in.result in
    let at = pass_here view c.args.self.now.pass c.in-Some.pass (search rules) in
    let is : List Own = record { number = c.args.a; stored = true } ∷ [] in
    let own : v.own ≡ is = ap (λ (x : FlatView). x.own) (same_some v c.requires.here.view at c.requires.here.at) ∙ c.requires.here.is in
    record {
      view = v;
      at = at;
      is = record { view = w; at = refl; is = stored_by v w c.book_out-desk.result.1 c.attach.new.self c.args.thread c.args.a c.book_out-desk.ensures.book own c.attach.ensures (search rules) };
    }
