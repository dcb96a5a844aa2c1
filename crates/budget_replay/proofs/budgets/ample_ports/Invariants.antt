use Rattle.std.proofs.Common.{◌≡◌, vec_len}
use Rattle.budget_replay.proofs.budgets.ample_ports.Given as goal

abbrev pub invariant-loop : goal.invariant-loop
invariant-loop l = vec_len l.ports ≡ l.counter
