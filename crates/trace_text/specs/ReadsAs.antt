-- What a reader gives, beside how the bytes are read (this project's own).
use Rattle.std.specs.Prelude.{◌≡◌, Result, Ok, Err}
use Rattle.trace_text.specs.declared.fault.TraceFault.{TraceFault}
use Rattle.trace_text.specs.declared.fault.TraceFault.TheVariants.{Bad, NoMemory}
use Rattle.trace_text.specs.declared.trace.Trace.{Trace}
use Rattle.trace_text.specs.Grammar.{Reading, whole, faulty}

-- the trace where nothing is faulty, or the first faulty line with its first fault; want of memory may come at any time
abbrev pub ReadsAs : Result Trace TraceFault → Reading → Type 0
ReadsAs (Ok t) r = r ≡ whole t.version t.lines
ReadsAs (Err (Bad line why)) r = r ≡ faulty line why
ReadsAs (Err NoMemory) r = Unit {0}
