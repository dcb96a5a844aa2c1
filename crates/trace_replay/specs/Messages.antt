-- What the program says of how a run ended, behind its name (this project's own).
use Rattle.std.specs.Prelude.{ℕ, List, [], ◌++◌, codes, decimal}
use Rattle.trace_text.specs.FaultWords.{word_of}
use Rattle.trace_replay.specs.declared.exit.Large.{Large}
use Rattle.trace_replay.specs.declared.exit.Large.TheVariants.{Thread, Words}
use Rattle.trace_replay.specs.declared.exit.Exit.{Exit}
use Rattle.trace_replay.specs.declared.exit.Exit.TheVariants.{Done, Usage, BadTrace, TooLong, TooLarge, ReadFault, WriteFault, NoMemory, NotBuilt}

abbrev pub large_of : Large → List ℕ
large_of (Thread thread) = codes "thread " ++ decimal thread ++ codes " with --threads"
large_of (Words words) = codes "layout needs " ++ decimal words ++ codes " words"

-- nothing is said of a run that is done
abbrev pub message_of : Exit → List ℕ
message_of Done = []
message_of Usage = codes "usage"
message_of (BadTrace line why) = codes "line " ++ decimal line ++ codes ": " ++ word_of why
message_of TooLong = codes "input too long"
message_of (TooLarge what) = large_of what
message_of ReadFault = codes "read failed"
message_of WriteFault = codes "write failed"
message_of NoMemory = codes "no memory"
message_of (NotBuilt line) = codes "line " ++ decimal line ++ codes ": not built"
