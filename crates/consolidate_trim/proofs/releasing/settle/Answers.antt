use Rattle.std.proofs.Common.{arith}
use Rattle.std.proofs.lemmas.Result.{err_from_is_err_and}
use Rattle.arena_rules.specs.Release.{trimmed_by_threshold}
use Rattle.consolidate_trim.proofs.Carried.{carries_then, carries_behind, carries_short, carries_ends, passes_behind}
use Rattle.consolidate_trim.proofs.HoldSteps.{passes_as, passes_room, passes_settle, settled_small, settled_large}
use Rattle.consolidate_trim.proofs.Lifts.{lifted}
use Rattle.consolidate_trim.proofs.releasing.settle.Goals as goal

pub returns-then-size-lt-SETTLING_SIZE-clause-gives : goal.returns-then-size-lt-SETTLING_SIZE-clause-gives
returns-then-size-lt-SETTLING_SIZE-clause-gives g c = λ cache.
    carries_ends _ (passes_as c.requires.backed.sound (settled_small c.args.t.now c.args.merged _ (omega (arith, c.size-2.view_is, c.size.ensures))))

pub returns-in_err-make_room-clause-gives : goal.returns-in_err-make_room-clause-gives
returns-in_err-make_room-clause-gives g c = λ cache.
    let p = err_from_is_err_and c.from_residual.result c.from_residual.ensures.1 in
    carries_then (passes_as c.requires.backed.sound (settled_large c.args.t.now c.args.merged _ (omega (arith, c.size-2.view_is, c.size.ensures))))
    (carries_then (passes_room c.requires.backed.sound c.make_room.ensures.answers) (carries_short p.1 c.requires.backed.sound))

pub returns-in_err-consolidate_if-clause-gives : goal.returns-in_err-consolidate_if-clause-gives
returns-in_err-consolidate_if-clause-gives g c = λ cache.
    let p = err_from_is_err_and c.from_residual-in_err-consolidate_if.result c.from_residual-in_err-consolidate_if.ensures.1 in
    carries_then (passes_settle c.args.merged c.requires.backed.sound (omega (arith, c.size-2.view_is, c.size.ensures)) c.make_room.ensures.answers c.flag-flag.ensures c.tell.ensures)
    (carries_behind (λ b. trimmed_by_threshold c.args.t.now b) _ p.1 (lifted _ c.args.t.now cache c.args.space.now _ _ _ _ c.in_err-consolidate_if.ensures.empties))

pub returns-clause-gives : goal.returns-clause-gives
returns-clause-gives g c = λ cache.
    carries_then (passes_settle c.args.merged c.requires.backed.sound (omega (arith, c.size-2.view_is, c.size.ensures)) c.make_room.ensures.answers c.flag-flag.ensures c.tell.ensures)
    (carries_then (passes_behind (λ b. trimmed_by_threshold c.args.t.now b) _ (lifted _ c.args.t.now cache c.args.space.now _ _ _ _ c.in_ok-consolidate_if.ensures.empties))
    (c.trim_by_threshold.ensures.gives cache))
