use Rattle.std.proofs.Common.{◌≡◌, ◌++◌, drop}
use Rattle.std.specs.String.{string_bytes}
use Rattle.kernel_calls.specs.Table.{rows_from}
use Rattle.kernel_calls.proofs.table.push_rows.Given as goal

-- what is written, with the rows that are still to come, is all rows behind what was there
abbrev pub invariant-loop-thread : goal.invariant-loop-thread
invariant-loop-thread l =
    string_bytes l.out ++ rows_from l.thread (drop l.thread l.all) ≡ string_bytes l.initial.out ++ rows_from 0 l.all
