use Rattle.std.proofs.Common.{◌≡◌, option_map, IsTrue}
use Rattle.thread_places.specs.BoardWays.{listed_in}
use Rattle.thread_places.proofs.places.BoardPlaces.try_round.Given as goal

abbrev pub invariant-loop : goal.invariant-loop
invariant-loop g l = (option_map g.B.BoardPass.view l.self.pass ≡ option_map g.B.BoardPass.view l.fn.self.pass) × ((l.self.polls ≡ l.fn.self.polls) × ((l.self.who ≡ l.fn.self.who) × IsTrue (listed_in (option_map g.B.BoardPass.view l.fn.self.pass) l.a)))
