use Rattle.std.proofs.Common.{◌≡◌, map, take}
use Rattle.fast_bins.specs.PlainBins.{listed}
use Rattle.fast_bins.proofs.plain.lists_of.Given as goal

abbrev pub invariant-loop-b : goal.invariant-loop-b
invariant-loop-b l = map (λ v. v.items) l.lists.items ≡ map listed (map (λ b. b.bin) (take l.b-index l.bins))
