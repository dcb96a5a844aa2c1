use Rattle.std.proofs.Common.{rules, refl}
use Rattle.std.specs.Prelude.{option_map}
use Rattle.thread_places.specs.BoardWays.{state_at}
use Rattle.thread_places.specs.BoardLaws.{took_by, pass_here}
use Rattle.thread_places.proofs.places.BoardPlacesPlaces.take.Goals as goal

pub returns : goal.returns
returns g c =
    let view = g.B.BoardPass.view in
    let v = view c.in-Some.pass in
    let w = view c.take_within-took.new.self in
    let e = c.take_within-took.ensures in
    took_by (λ p. state_at (option_map view p.pass) p.polls p.who) g.B.BoardPass.seen g.B.Held.FastPort.fast g.B.BoardPass.words c.args.self.now _ c.args.tray c.take_within-took.result v w
    (pass_here view c.args.self.now.pass c.in-Some.pass (search rules)) refl e.got e.held e.took e.missed
