use Rattle.std.proofs.Common.{ap}
use Rattle.world_view.specs.Places.{numbered_bin}
use Rattle.world_view.proofs.Placing.{list_more}
use Rattle.world_view.proofs.places.bins.Goals as goal

pub loop-number-preserved : goal.loop-number-preserved
loop-number-preserved c =
    list_more (numbered_bin c.args.ground.now.arena) c.loop-number.bins.items c.push.new.self.items c.loop-number.number _
    (ap (λ x. (c.loop-number.number, x)) c.in_ok-bin.ensures) c.in_ok-push.ensures.items c.loop-number.invariant
