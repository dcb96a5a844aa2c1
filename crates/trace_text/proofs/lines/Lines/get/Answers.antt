use Rattle.std.proofs.Common.{arith}
use Rattle.trace_text.proofs.RowLines.{index_of_row, line_got, number_in}
use Rattle.trace_text.proofs.lines.Lines.get.Goals as goal

pub index-requires : goal.index-requires
index-requires c = omega (arith, index_of_row _ _ _ _ c.self.view_is c.requires, c.self.inside.rows.ok.0)

pub overflow_add-result : goal.overflow_add-result
overflow_add-result c = omega (arith, index_of_row _ _ _ _ c.self.view_is c.requires, c.self.inside.rows.ok, c.self.inside.rows.small)

pub call_in-requires : goal.call_in-requires
call_in-requires c =
    rw c.as_slice.ensures.value (number_in c.self.inside.pairs.items _ c.args.index _ (index_of_row _ _ _ _ c.self.view_is c.requires) c.index.ensures c.self.invariant)

pub returns : goal.returns
returns c =
    line_got c.self.inside.pairs.items _ _ _ _ _ c.self.view_is (index_of_row _ _ _ _ c.self.view_is c.requires) c.index.ensures (rw c.as_slice.ensures.value at c.call_in.ensures)
