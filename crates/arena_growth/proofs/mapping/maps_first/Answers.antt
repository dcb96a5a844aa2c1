use Rattle.std.proofs.Common.{refl, arith}
use Rattle.arena_growth.proofs.Mappings.{whether_short, whether_small, whether_lost, whether_large}
use Rattle.arena_growth.proofs.mapping.maps_first.Goals as goal

pub returns-in_err-read_threshold-clause-asks : goal.returns-in_err-read_threshold-clause-asks
returns-in_err-read_threshold-clause-asks g c =
    rw (c.in_err-read_threshold.ensures.port, c.in_err-read_threshold.ensures.short)
    (whether_short g.P.FastPort.fast g.P.Dials.dials c.args.t.now c.args.nb _ _ c.from_residual.result c.from_residual.ensures.0)

pub returns-then-branch-clause-asks : goal.returns-then-branch-clause-asks
returns-then-branch-clause-asks g c =
    rw c.in_ok-read_threshold.ensures.told
    (whether_small g.P.FastPort.fast g.P.Dials.dials c.args.t.now c.args.nb c.in_ok-read_threshold.field-0 _ _ _ c.requires c.in_ok-read_threshold.ensures.step (omega arith))

pub returns-in_err-read_count-clause-asks : goal.returns-in_err-read_count-clause-asks
returns-in_err-read_count-clause-asks g c =
    rw (c.in_err-read_count.ensures.port, c.in_err-read_count.ensures.short, c.in_ok-read_threshold.ensures.told)
    (whether_lost g.P.FastPort.fast g.P.Dials.dials c.args.t.now c.args.nb c.in_ok-read_threshold.field-0 _ _ _ c.from_residual-in_err-read_count.result c.from_residual-in_err-read_count.ensures.0 c.requires c.in_ok-read_threshold.ensures.step (omega arith))

pub returns-clause-asks : goal.returns-clause-asks
returns-clause-asks g c =
    rw (c.in_ok-read_count.ensures.told, c.in_ok-read_threshold.ensures.told)
    (whether_large g.P.FastPort.fast g.P.Dials.dials c.args.t.now c.args.nb c.in_ok-read_threshold.field-0 c.in_ok-read_count.field-0 _ _ _ _ _ c.requires c.in_ok-read_threshold.ensures.step (omega arith) c.in_ok-read_count.ensures.step refl)
