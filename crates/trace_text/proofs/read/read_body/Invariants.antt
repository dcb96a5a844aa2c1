use Rattle.std.proofs.Common.{◌≡◌, [], length}
use Rattle.trace_text.specs.Grammar.{lines_after}
use Rattle.trace_text.specs.Seen.{Knows}
use Rattle.trace_text.proofs.Loop.{parts_of}
use Rattle.trace_text.proofs.read.read_body.Given as goal

abbrev pub invariant-loop-rest : goal.invariant-loop-rest
invariant-loop-rest l = record {
  known : Knows l.seen l.lines;
  so_far : lines_after l.version l.lines (parts_of l.rest) ≡ lines_after l.version [] (parts_of l.text);
}

abbrev pub decreases-loop-rest : goal.decreases-loop-rest
decreases-loop-rest l = length l.rest
