use Rattle.std.proofs.Common.{rules, refl, ℕ, List, ◌∷◌}
use Rattle.board_types.specs.Views.{OwnChunk}
use Rattle.std.specs.Prelude.{option_map}
use Rattle.thread_places.specs.BoardWays.{state_at}
use Rattle.thread_places.specs.BoardLaws.{gave_unseen, pass_here, pushed_frames}
use Rattle.thread_places.proofs.places.BoardPlacesPlaces.push.Goals as goal

pub returns-clause-gone : goal.returns-clause-gone
returns-clause-gone g c =
    let view = g.B.BoardPass.view in
    let v = view c.in-Some.pass in
    let w = view c.push.new.self in
    let pushes : ℕ → List OwnChunk = λ a. record { arena = a; chunk = record { at = c.args.b.addr; size = c.args.b.size } } ∷ v.pushes in
    gave_unseen (λ p. state_at (option_map view p.pass) p.polls p.who) g.B.BoardPass.seen g.B.Held.FastPort.fast g.B.BoardPass.words c.args.self.now _ c.args.b v w
    (pass_here view c.args.self.now.pass c.in-Some.pass (search rules)) refl c.push.ensures.gave (pushed_frames v w pushes c.args.b c.requires.arena c.push.ensures.rest)
