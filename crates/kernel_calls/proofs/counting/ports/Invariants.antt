use Rattle.std.proofs.Common.{◌≡◌, vec_len}
use Rattle.kernel_calls.proofs.counting.ports.Given as goal

abbrev pub invariant-loop-counts : goal.invariant-loop-counts
invariant-loop-counts l = vec_len l.ports ≡ l.counts-index
