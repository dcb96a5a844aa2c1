use Rattle.std.proofs.Common.{leb, leb-true, leb-false, rules}
use Rattle.std.proofs.lemmas.List.Sorted.{IsPartitionPoint-from_clause, IsPartitionedBy-leb}
use Rattle.world_view.specs.Places.{Placed}
use Rattle.world_view.proofs.table.end_of.Goals as goal

pub returns-clause-end : goal.returns-clause-end
returns-clause-end c =
    let parted = IsPartitionedBy-leb (λ (f : Placed). f.0) _ c.args.at c.requires in
    let point = IsPartitionPoint-from_clause (λ (f : Placed). leb f.0 c.args.at) _ _ c.partition_point.ensures.partitioned parted (λ a r q k. search rules) in
    (λ k d low high. leb-true _ _ (point.0 k d low high), λ k d low high. leb-false _ _ (point.1 k d low high))
