-- The exit statuses (this project's own).
use Rattle.std.specs.Prelude.{ℕ}
use Rattle.trace_replay.specs.declared.exit.Exit.{Exit}
use Rattle.trace_replay.specs.declared.exit.Exit.TheVariants.{Done, Usage, BadTrace, TooLong, TooLarge, ReadFault, WriteFault, NoMemory, NotBuilt}

abbrev pub status_of : Exit → ℕ
status_of Done = 0
status_of Usage = 2
status_of (BadTrace line why) = 3
status_of TooLong = 4
status_of (TooLarge what) = 5
status_of ReadFault = 6
status_of WriteFault = 7
status_of NoMemory = 8
status_of (NotBuilt line) = 9
