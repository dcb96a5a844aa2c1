use Rattle.arena_ground.proofs.Reading.{next_of, read_on}
use Rattle.arena_ground.proofs.steps.addresses.Goals as goal

pub loop-next-preserved : goal.loop-next-preserved
loop-next-preserved c =
    let n = next_of _ _ _ _ c.loop-next.invariant c.in-Some.is in
    rw c.in_ok-push.ensures.items (read_on _ _ _ _ n (c.next-next.ensures c.args.bin _ n.back c.requires n.split))
