use Rattle.std.proofs.Common.{ap, length, arith}
use Rattle.trace_text.proofs.RowLines.{length-lines_from}
use Rattle.trace_text.proofs.lines.Lines.len.Goals as goal

pub returns-clause-few : goal.returns-clause-few
returns-clause-few c = omega (arith, c.len.ensures, c.self.inside.rows.ok, c.self.inside.rows.small)

pub returns-clause-count : goal.returns-clause-count
returns-clause-count c =
    omega (arith, c.len.ensures, c.self.inside.rows.ok.0, ap length c.self.view_is, length-lines_from 2 c.self.inside.pairs.items c.self.inside.rows.items)
