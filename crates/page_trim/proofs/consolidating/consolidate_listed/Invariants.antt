use Rattle.std.proofs.Common.{map, drop}
use Rattle.page_trim.specs.Trimming.{chunks_listed}
use Rattle.page_trim.proofs.Merging.{IsMerging}
use Rattle.page_trim.proofs.consolidating.consolidate_listed.Given as goal

abbrev pub invariant-loop-bin : goal.invariant-loop-bin
invariant-loop-bin g l =
    let lists = map (λ v. v.items) l.fast in
    IsMerging (g.M.Moves.plain l.fn.g) (chunks_listed 0 lists) (g.M.Moves.plain l.g) (chunks_listed l.bin (drop l.bin lists))
