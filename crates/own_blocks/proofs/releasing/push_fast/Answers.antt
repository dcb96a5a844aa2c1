use Rattle.arena_holds.proofs.Carrying.{unseen_then, unseen_keeps}
use Rattle.own_blocks.proofs.releasing.push_fast.Goals as goal

pub push-requires-clause-served : goal.push-requires-clause-served
push-requires-clause-served g c = unseen_keeps g.met.P.Places.laws.same c.make_room.ensures.unseen c.requires.served

pub returns-in-Ok-clause-gone : goal.returns-in-Ok-clause-gone
returns-in-Ok-clause-gone g c = unseen_then g.met.P.Places.laws.same c.make_room.ensures.unseen c.push.ensures.gone
