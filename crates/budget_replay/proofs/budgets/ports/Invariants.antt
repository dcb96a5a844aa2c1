use Rattle.std.proofs.Common.{◌≡◌, vec_len}
use Rattle.budget_replay.proofs.budgets.ports.Given as goal

abbrev pub invariant-loop-limit : goal.invariant-loop-limit
invariant-loop-limit l = vec_len l.ports ≡ 64
