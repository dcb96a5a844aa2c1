use Rattle.trace_replay.proofs.SheetLaws.{no_records, first_room}
use Rattle.trace_replay.proofs.sheet.Sheet.new.Goals as goal

pub returns-then-summary-clause-awaits : goal.returns-then-summary-clause-awaits
returns-then-summary-clause-awaits c = λ lines spelled few. first_room _ _ c.new.ensures few

pub returns-in_ok-new-clause-blank : goal.returns-in_ok-new-clause-blank
returns-in_ok-new-clause-blank c = rw c.if-summary.false (no_records _ _ c.in_ok-new.ensures.first)
