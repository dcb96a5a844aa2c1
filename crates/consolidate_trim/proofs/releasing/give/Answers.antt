use Rattle.consolidate_trim.proofs.Carried.{carries_then}
use Rattle.consolidate_trim.proofs.HoldSteps.{hand_own, merge_backed, passes_merge}
use Rattle.consolidate_trim.proofs.releasing.give.Goals as goal

pub merge-merged-requires-clause-own : goal.merge-merged-requires-clause-own
merge-merged-requires-clause-own g c = hand_own c.args.c c.requires.backed

pub settle-requires-clause-backed : goal.settle-requires-clause-backed
settle-requires-clause-backed g c = λ k l. merge_backed (g.M.Moves.plain c.merge-merged.new.g) c.merge-merged.result c.args.c c.requires.backed c.merge-merged.ensures

pub returns-clause-gives : goal.returns-clause-gives
returns-clause-gives g c = λ cache. carries_then (passes_merge (g.M.Moves.plain c.merge-merged.new.g) c.merge-merged.result c.args.c c.requires.backed c.merge-merged.ensures) (c.settle.ensures.gives cache)
