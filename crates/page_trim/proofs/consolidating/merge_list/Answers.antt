use Rattle.std.proofs.Common.{sym, ap, ◌∙◌, subst, IsTrue}
use Rattle.chunk_tags.specs.BinOrder.{fast_chunk}
use Rattle.arena_rules.specs.PlainArena.{is_own}
use Rattle.arena_rules.specs.Release.{merged}
use Rattle.page_trim.proofs.Merging.{list_left, left_own, left_merged, merge_is}
use Rattle.page_trim.proofs.consolidating.merge_list.Goals as goal

pub merge-requires-clause-own : goal.merge-requires-clause-own
merge-requires-clause-own g c =
    subst (λ x. IsTrue (is_own (g.M.Moves.plain c.loop-at.g) x)) (sym c.fast_chunk_at.ensures)
    (left_own _ _ _ _ _ _ c.loop-at.invariant (list_left c.args.bin c.at-item.result c.loop-at.at-index c.args.list.now c.loop-at-test.true c.at-item.is))

pub loop-at-preserved : goal.loop-at-preserved
loop-at-preserved g c =
    left_merged _ _ _ _ _ _ _ c.loop-at.invariant (list_left c.args.bin c.at-item.result c.loop-at.at-index c.args.list.now c.loop-at-test.true c.at-item.is)
    (merge_is c.merge.result (g.M.Moves.plain c.loop-at.g) (g.M.Moves.plain c.merge.new.g) (fast_chunk c.args.bin c.at-item.result) (c.merge.ensures ∙ ap (merged (g.M.Moves.plain c.loop-at.g)) c.fast_chunk_at.ensures))
