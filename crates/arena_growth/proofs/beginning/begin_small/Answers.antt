use Rattle.chunk_tags.specs.Tunables.{serial_values}
use Rattle.arena_growth.proofs.Looks.{small_ends, small_fails, small_sweeps, small_sweep_fails, backed_small}
use Rattle.arena_growth.proofs.beginning.begin_small.Goals as goal

pub returns-in_err-c-clause-steps : goal.returns-in_err-c-clause-steps
returns-in_err-c-clause-steps g c = small_fails g.P.FastPort.fast c.args.port.now c.args.nb _ _ c.in_err-c.field-0.0 c.from_residual.result c.from_residual.ensures.0 c.in_err-c.ensures.steps

pub returns-in-Taken-clause-steps : goal.returns-in-Taken-clause-steps
returns-in-Taken-clause-steps g c = small_ends g.P.FastPort.fast c.args.port.now c.args.nb _ _ c.in-Taken.c (rw c.in-Taken.is at c.in_ok-c.ensures.steps)

pub consolidate_first-requires : goal.consolidate_first-requires
consolidate_first-requires g c = backed_small serial_values c.args.port.now c.requires.backed (rw c.in-Onward.is at c.in_ok-c.ensures.steps)

pub returns-in_err-consolidate_first-in-Onward-clause-steps : goal.returns-in_err-consolidate_first-in-Onward-clause-steps
returns-in_err-consolidate_first-in-Onward-clause-steps g c =
    small_sweep_fails g.P.FastPort.fast c.args.nb _ _ _ _ _ _ c.in_err-consolidate_first-in-Onward.field-0.0 c.from_residual-in_err-consolidate_first-in-Onward.result c.from_residual-in_err-consolidate_first-in-Onward.ensures.0
    (rw c.in-Onward.is at c.in_ok-c.ensures.steps) c.in_err-consolidate_first-in-Onward.ensures.sweeps

pub returns-in_ok-consolidate_first-in-Onward-clause-steps : goal.returns-in_ok-consolidate_first-in-Onward-clause-steps
returns-in_ok-consolidate_first-in-Onward-clause-steps g c =
    small_sweeps g.P.FastPort.fast c.args.nb _ _ _ _ _ _ (rw c.in-Onward.is at c.in_ok-c.ensures.steps) c.in_ok-consolidate_first-in-Onward.ensures.sweeps
