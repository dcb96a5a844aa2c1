use Rattle.ordinary_bins.specs.Lists.{list_at}
use Rattle.large_bins.specs.Places.{Passes}
use Rattle.large_bins.specs.SeenChunks.{size_at}
use Rattle.large_bins.proofs.Turns.{turns_on}
use Rattle.large_bins.proofs.bins.first_not_above.Given as goal

abbrev pub invariant-loop-next : goal.invariant-loop-next
invariant-loop-next l = Passes (size_at l.tiles.tiles) l.size (list_at l.bin l.firsts.lists) l.next

abbrev pub decreases-loop-next : goal.decreases-loop-next
decreases-loop-next l = turns_on (list_at l.bin l.firsts.lists) l.next
