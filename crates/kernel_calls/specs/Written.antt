-- What is written (this project's own).
use Rattle.std.specs.Prelude.{◌≡◌, Bool, List, length}
use Rattle.byte_edge.specs.Streams.{Store}
use Rattle.byte_edge.specs.Output.{HasText}
use Rattle.kernel_calls.specs.declared.counts.Counts.{Counts}
use Rattle.kernel_calls.specs.Table.{table_of}

-- the table of 64 counts stands behind what was written before, and all of it is flushed
pub record WritesTable {W : Type 0} (store : Store W) (before : W) (by_thread : Bool) (now : W) : Type 0 where
  pub counts : List Counts
  pub each : length counts ≡ 64
  pub text : HasText store before (table_of by_thread counts) now
