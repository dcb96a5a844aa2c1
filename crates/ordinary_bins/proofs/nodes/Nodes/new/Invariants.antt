use Rattle.std.proofs.Common.{◌≡◌, ℕ, ◌<◌, vec_len, get_or}
use Rattle.ordinary_bins.specs.NodeWords.{no_codes}
use Rattle.ordinary_bins.proofs.nodes.Nodes.new.Given as goal

abbrev pub invariant-loop-bin : goal.invariant-loop-bin
invariant-loop-bin l = (vec_len l.own ≡ l.bin) × ((k : ℕ) → k < l.bin → get_or l.own.items k no_codes ≡ record { fd = k; bk = k })
