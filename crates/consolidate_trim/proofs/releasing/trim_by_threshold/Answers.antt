use Rattle.std.proofs.lemmas.Result.{err_from_is_err_and}
use Rattle.consolidate_trim.proofs.Carried.{carries_then, carries_short, carries_ends}
use Rattle.consolidate_trim.proofs.HeapTrims.{trims_other, main_by_number, other_by_number}
use Rattle.consolidate_trim.proofs.HoldSteps.{passes_room, passes_threshold}
use Rattle.consolidate_trim.proofs.Trims.{trims_main}
use Rattle.consolidate_trim.proofs.releasing.trim_by_threshold.Goals as goal

pub returns-in_err-make_room-clause-gives : goal.returns-in_err-make_room-clause-gives
returns-in_err-make_room-clause-gives g c = λ cache.
    let p = err_from_is_err_and c.from_residual.result c.from_residual.ensures.1 in
    carries_then (passes_room c.requires.sound c.make_room.ensures.answers) (carries_short p.1 c.requires.sound)

pub returns-then-number-eq0-clause-gives : goal.returns-then-number-eq0-clause-gives
returns-then-number-eq0-clause-gives g c = λ cache.
    carries_then (passes_room c.requires.sound c.make_room.ensures.answers)
    (carries_then (passes_threshold _ c.requires.apart c.requires.sound c.trim_threshold-threshold.ensures c.tell.ensures)
    (carries_ends _ (trims_main c.requires.sound (main_by_number (g.M.Moves.plain c.args.g.now) _ c.number.ensures c.if-number-eq0.true) c.trim_main.ensures)))

pub returns-else-number-eq0-clause-gives : goal.returns-else-number-eq0-clause-gives
returns-else-number-eq0-clause-gives g c = λ cache.
    carries_then (passes_room c.requires.sound c.make_room.ensures.answers)
    (carries_then (passes_threshold _ c.requires.apart c.requires.sound c.trim_threshold-threshold.ensures c.tell.ensures)
    (carries_ends _ (trims_other _ (other_by_number (g.M.Moves.plain c.args.g.now) _ c.number.ensures c.if-number-eq0.false) c.trim_heap.ensures.trims)))
