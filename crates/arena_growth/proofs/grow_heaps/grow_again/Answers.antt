use Rattle.arena_growth.proofs.Cutting.{again_short, again_ends}
use Rattle.arena_growth.proofs.grow_heaps.grow_again.Goals as goal

pub returns-in_err-grow_heaps-clause-finds : goal.returns-in_err-grow_heaps-clause-finds
returns-in_err-grow_heaps-clause-finds g c = again_short _ c.args.t.now c.args.nb _ _ c.in_err-grow_heaps.field-0.0 c.from_residual.result c.from_residual.ensures.0 c.in_err-grow_heaps.ensures.grows

pub returns-clause-finds : goal.returns-clause-finds
returns-clause-finds g c = again_ends _ c.args.t.now c.args.nb _ _ c.in_ok-grow_heaps.field-0 _ c.cut_from_grown.result c.in_ok-grow_heaps.ensures.grows c.cut_from_grown.ensures.cut
