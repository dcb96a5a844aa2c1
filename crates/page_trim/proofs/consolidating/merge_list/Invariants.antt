use Rattle.std.proofs.Common.{map, drop}
use Rattle.chunk_tags.specs.BinOrder.{fast_chunk}
use Rattle.page_trim.proofs.Merging.{IsMerging}
use Rattle.page_trim.proofs.consolidating.merge_list.Given as goal

abbrev pub invariant-loop-at : goal.invariant-loop-at
invariant-loop-at g l =
    IsMerging (g.M.Moves.plain l.fn.g) (map (fast_chunk l.bin) l.list) (g.M.Moves.plain l.g) (map (fast_chunk l.bin) (drop l.at-index l.list))
