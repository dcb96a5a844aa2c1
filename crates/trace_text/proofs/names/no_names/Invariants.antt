use Rattle.std.proofs.Common.{◌≡◌, replicate}
use Rattle.trace_text.specs.Names.{none_held}
use Rattle.trace_text.proofs.names.no_names.Given as goal

abbrev pub invariant-loop : goal.invariant-loop
invariant-loop l = l.threads.items ≡ replicate l.counter none_held
