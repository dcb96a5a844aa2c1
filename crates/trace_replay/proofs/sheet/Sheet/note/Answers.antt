use Rattle.std.proofs.lemmas.Result.{on_ok_weaker, on_err_weaker}
use Rattle.trace_replay.proofs.SheetLaws.{record_noted, record_lacks, count_noted}
use Rattle.trace_replay.proofs.sheet.Sheet.note.Goals as goal

pub returns-in-Report-clause-noted : goal.returns-in-Report-clause-noted
returns-in-Report-clause-noted c =
    on_ok_weaker c.append.result
    (λ appends rest. record_noted _ _ _ _ _ _ rest c.in-Report.is c.outcome-said.ensures appends) c.append.ensures.ok

pub returns-in-Report-clause-full : goal.returns-in-Report-clause-full
returns-in-Report-clause-full c =
    on_err_weaker c.append.result
    (λ lacks rest. record_lacks _ _ _ _ _ rest c.in-Report.is c.outcome-said.ensures lacks) c.append.ensures.full

pub returns-in-Summary-clause-noted : goal.returns-in-Summary-clause-noted
returns-in-Summary-clause-noted c = λ rest. count_noted _ _ _ _ _ _ rest c.in-Summary.is c.outcome-said.ensures c.add.ensures
