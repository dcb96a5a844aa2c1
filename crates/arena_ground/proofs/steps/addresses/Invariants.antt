use Rattle.std.proofs.Common.{◌-◌, length}
use Rattle.ordinary_bins.specs.Lists.{list_at}
use Rattle.arena_ground.proofs.Reading.{IsRead}
use Rattle.arena_ground.proofs.steps.addresses.Given as goal

abbrev pub invariant-loop-next : goal.invariant-loop-next
invariant-loop-next l = IsRead (list_at l.bin l.links.lists) l.found.items l.next

abbrev pub decreases-loop-next : goal.decreases-loop-next
decreases-loop-next l = length (list_at l.bin l.links.lists) - length l.found.items
