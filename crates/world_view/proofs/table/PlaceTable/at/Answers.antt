use Rattle.std.proofs.Common.{true, false, sym, ◌∙◌}
use Rattle.world_view.proofs.Tables.{found_is, found_nowhere}
use Rattle.world_view.proofs.table.PlaceTable.at.Goals as goal

pub returns-then-end-eq0 : goal.returns-then-end-eq0
returns-then-end-eq0 c = sym (found_nowhere c.args.self.now c.args.at (rw (c.as_slice-found.ensures.value, c.self.view_is, c.if-end-eq0.true) at c.end_of-end.ensures.end))

pub returns-then-eq : goal.returns-then-eq
returns-then-eq c =
    found_is c.as_slice-found.result.now c.args.self.now c.args.at c.end_of-end.result c.index-found-end.result c.index-found-end-2.result true (c.as_slice-found.ensures.value ∙ c.self.view_is) (rw c.self.view_is at c.self.invariant)
    c.if-end-eq0.false c.end_of-end.ensures.within c.end_of-end.ensures.end c.if-eq.ensures

pub returns-else-eq : goal.returns-else-eq
returns-else-eq c =
    found_is c.as_slice-found.result.now c.args.self.now c.args.at c.end_of-end.result c.index-found-end.result c.index-found-end.result false (c.as_slice-found.ensures.value ∙ c.self.view_is) (rw c.self.view_is at c.self.invariant)
    c.if-end-eq0.false c.end_of-end.ensures.within c.end_of-end.ensures.end c.if-eq.ensures
