use Rattle.std.proofs.Common.{◌≡◌, take}
use Rattle.trace_text.specs.Spelling.{spelling}
use Rattle.trace_text.proofs.write.print_trace.Given as goal

abbrev pub invariant-loop-index : goal.invariant-loop-index
invariant-loop-index l = l.text.items ≡ spelling l.t.version (take l.index l.t.lines)
