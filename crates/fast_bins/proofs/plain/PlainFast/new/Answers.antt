use Rattle.std.proofs.Common.{refl}
use Rattle.fast_bins.specs.PlainBins.{empty_state}
use Rattle.fast_bins.proofs.plain.PlainFast.new.Goals as goal

pub returns : goal.returns
unfolding empty_state
returns c = rw c.new.ensures.items refl
