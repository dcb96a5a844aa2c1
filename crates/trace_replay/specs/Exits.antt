-- How a run ends where one of its parts has no answer (this project's own).
use Rattle.byte_edge.specs.declared.reading.Unread.{Unread}
use Rattle.byte_edge.specs.declared.reading.Unread.TheVariants as unread
use Rattle.trace_text.specs.declared.fault.TraceFault.{TraceFault}
use Rattle.trace_text.specs.declared.fault.TraceFault.TheVariants as faults
use Rattle.trace_replay.specs.declared.exit.Exit.{Exit}
use Rattle.trace_replay.specs.declared.exit.Exit.TheVariants.{BadTrace, TooLong, ReadFault, NoMemory}

-- an input that wasn't read whole
abbrev pub exit_of_unread : Unread → Exit
exit_of_unread unread.CutOff = ReadFault
exit_of_unread unread.TooLong = TooLong
exit_of_unread unread.NoMemory = NoMemory

-- bytes that weren't read as a trace
abbrev pub exit_of_fault : TraceFault → Exit
exit_of_fault (faults.Bad line why) = BadTrace line why
exit_of_fault faults.NoMemory = NoMemory
