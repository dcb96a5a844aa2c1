use Rattle.ordinary_bins.specs.Lists.{list_at}
use Rattle.large_bins.specs.Places.{EndsBelow}
use Rattle.large_bins.specs.SeenChunks.{size_at}
use Rattle.large_bins.proofs.Turns.{turns_back}
use Rattle.large_bins.proofs.bins.last_fitting.Given as goal

abbrev pub invariant-loop-next : goal.invariant-loop-next
invariant-loop-next l = EndsBelow (size_at l.tiles.tiles) l.nb (list_at l.bin l.links.lists) l.next

abbrev pub decreases-loop-next : goal.decreases-loop-next
decreases-loop-next l = turns_back (list_at l.bin l.links.lists) l.next
