use Rattle.std.proofs.Common.{arith}
use Rattle.std.proofs.lemmas.Result.{err_from_is_err_and}
use Rattle.consolidate_trim.proofs.Emptying.{consolidating_begins, consolidating_backed, consolidating_further, consolidating_short, consolidating_ends}
use Rattle.consolidate_trim.proofs.consolidating.consolidate.Goals as goal

pub loop-bin-init : goal.loop-bin-init
loop-bin-init g c = consolidating_begins c.requires c.clear_flag.ensures

pub merge_bin-requires-clause-backed : goal.merge_bin-requires-clause-backed
merge_bin-requires-clause-backed g c = consolidating_backed c.requires c.loop-bin.invariant c.take_all.ensures

pub returns-in_err-merge_bin-clause-empties : goal.returns-in_err-merge_bin-clause-empties
returns-in_err-merge_bin-clause-empties g c =
    let p = err_from_is_err_and c.from_residual.result c.from_residual.ensures.1 in
    consolidating_short _ p.1 (omega arith) c.loop-bin.invariant c.take_all.ensures c.in_err-merge_bin.ensures.empties

pub loop-bin-preserved : goal.loop-bin-preserved
loop-bin-preserved g c = consolidating_further _ (omega arith) c.loop-bin.invariant c.take_all.ensures c.in_ok-merge_bin.ensures.empties

pub returns-clause-empties : goal.returns-clause-empties
returns-clause-empties g c = consolidating_ends _ (omega arith) c.loop-bin.invariant
