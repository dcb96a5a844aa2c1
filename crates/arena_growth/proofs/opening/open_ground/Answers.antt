use Rattle.arena_growth.proofs.FirstHeaps.{opens_first, opens_short, opens_second}
use Rattle.arena_growth.proofs.opening.open_ground.Goals as goal

pub returns-in-Some : goal.returns-in-Some
returns-in-Some g c = opens_first _ _ c.args.t.now c.args.number c.args.bytes _ _ _ _ c.in-Some.ground (rw c.in-Some.is at c.in_ok-ground.ensures)

pub returns-in-None : goal.returns-in-None
returns-in-None g c = opens_second _ _ c.args.t.now c.args.number c.args.bytes _ _ _ _ _ _ c.open_for-in-None.result (rw c.in-None.is at c.in_ok-ground.ensures) c.open_for-in-None.ensures
