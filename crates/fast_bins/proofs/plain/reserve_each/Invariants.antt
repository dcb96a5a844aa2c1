use Rattle.fast_bins.specs.PlainBins.{Roomier, HaveRoom}
use Rattle.fast_bins.proofs.plain.reserve_each.Given as goal

abbrev pub invariant-loop-b : goal.invariant-loop-b
invariant-loop-b l = Roomier l.initial.bins l.bins × HaveRoom l.b-index l.bins
