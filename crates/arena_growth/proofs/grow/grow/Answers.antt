use Rattle.consolidate_trim.proofs.HeapTrims.{main_by_number, other_by_number}
use Rattle.arena_growth.proofs.Cutting.{main_ends, main_short, grown_other}
use Rattle.arena_growth.proofs.MainGrowth.{main_ready}
use Rattle.arena_growth.proofs.grow.grow.Goals as goal

pub returns-then-number-ne0-clause-finds : goal.returns-then-number-ne0-clause-finds
returns-then-number-ne0-clause-finds g c =
    let other = other_by_number (g.M.Moves.plain c.args.g.now) _ c.number.ensures c.if-number-ne0.true in
    grown_other _ c.args.t.now c.args.nb c.args.tried _ _ c.grow_other.result other c.grow_other.ensures.finds

pub returns-in_err-grow_main-clause-finds : goal.returns-in_err-grow_main-clause-finds
returns-in_err-grow_main-clause-finds g c =
    let main = main_by_number (g.M.Moves.plain c.args.g.now) _ c.number.ensures c.if-number-ne0.false in
    main_short _ c.args.t.now c.args.nb c.args.tried _ _ c.in_err-grow_main.field-0.0 c.from_residual.result c.from_residual.ensures.0 main c.in_err-grow_main.ensures.grows

pub returns-clause-finds : goal.returns-clause-finds
returns-clause-finds g c =
    let main = main_by_number (g.M.Moves.plain c.args.g.now) _ c.number.ensures c.if-number-ne0.false in
    main_ends _ c.args.t.now c.args.nb c.args.tried _ _ _ c.cut_from_grown.result main c.in_ok-grow_main.ensures.grows c.cut_from_grown.ensures.cut
