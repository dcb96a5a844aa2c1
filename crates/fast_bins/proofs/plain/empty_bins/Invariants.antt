use Rattle.std.proofs.Common.{◌≡◌, map, replicate}
use Rattle.fast_bins.specs.PlainBins.{empty_bin}
use Rattle.fast_bins.proofs.plain.empty_bins.Given as goal

abbrev pub invariant-loop : goal.invariant-loop
invariant-loop l = map (λ b. b.bin) l.bins.items ≡ replicate l.counter empty_bin
