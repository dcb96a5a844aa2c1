use Rattle.std.proofs.Common.{◌≡◌, ◌-◌, length}
use Rattle.trace_maker.specs.Generator.{more_lines, lines_made}
use Rattle.trace_maker.specs.HeldMarks.{Knows}
use Rattle.trace_maker.proofs.making.generate.Given as goal

abbrev pub invariant-loop-done : goal.invariant-loop-done
invariant-loop-done l = record {
  count : length l.lines ≡ l.done;
  held : Knows l.held.marks.items l.lines;
  lines : more_lines l.lines l.maker (l.n - l.done) ≡ lines_made l.seed l.n;
}
