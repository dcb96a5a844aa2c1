use Rattle.std.proofs.Common.{sym, subst, IsTrue}
use Rattle.std.proofs.lemmas.Result.{err_from_is_err_and}
use Rattle.arena_rules.specs.PlainArena.{is_own}
use Rattle.consolidate_trim.proofs.Emptying.{merging_begins, merging_said, merging_short, merging_ends, given_own, merging_further}
use Rattle.consolidate_trim.proofs.consolidating.merge_bin.Goals as goal

pub loop-port-init : goal.loop-port-init
loop-port-init g c = merging_begins c.args.bin _ c.requires.backed

pub returns-in_err-make_room-clause-empties : goal.returns-in_err-make_room-clause-empties
returns-in_err-make_room-clause-empties g c =
    let p = err_from_is_err_and c.from_residual.result c.from_residual.ensures.1 in
    merging_short p.1 (merging_said _ c.make_room.ensures.answers c.loop-port.invariant)

pub returns-in_default-clause-empties : goal.returns-in_default-clause-empties
returns-in_default-clause-empties g c =
    merging_ends _ (merging_said _ c.make_room.ensures.answers c.loop-port.invariant) c.in_default.ensures c.tell.ensures

pub merge-requires-clause-own : goal.merge-requires-clause-own
merge-requires-clause-own g c =
    subst (λ x. IsTrue (is_own (g.M.Moves.plain c.loop-port.g) x)) (sym c.fast_chunk_at.ensures)
    (given_own c.requires.backed c.loop-port.invariant c.in-Some.ensures)

pub loop-port-smaller : goal.loop-port-smaller
loop-port-smaller g c =
    (merging_further (g.M.Moves.plain c.merge.new.g) c.merge.result c.requires.backed (merging_said _ c.make_room.ensures.answers c.loop-port.invariant) c.in-Some.ensures
    c.fast_chunk_at.ensures c.merge.ensures c.tell-in-loop-port.ensures).fewer

pub loop-port-preserved : goal.loop-port-preserved
loop-port-preserved g c =
    (merging_further (g.M.Moves.plain c.merge.new.g) c.merge.result c.requires.backed (merging_said _ c.make_room.ensures.answers c.loop-port.invariant) c.in-Some.ensures
    c.fast_chunk_at.ensures c.merge.ensures c.tell-in-loop-port.ensures).next
