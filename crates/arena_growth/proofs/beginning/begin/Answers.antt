use Rattle.chunk_tags.specs.Tunables.{serial_values}
use Rattle.arena_growth.proofs.Looks.{begin_ends, begin_fails, begin_goes, backed_step}
use Rattle.arena_growth.proofs.beginning.begin.Goals as goal

pub returns-in_err-c-clause-steps : goal.returns-in_err-c-clause-steps
returns-in_err-c-clause-steps g c = begin_fails g.P.FastPort.fast c.args.t.now c.args.nb _ _ c.in_err-c.field-0.0 c.from_residual.result c.from_residual.ensures.0 c.in_err-c.ensures.steps

pub returns-in-Taken-clause-steps : goal.returns-in-Taken-clause-steps
returns-in-Taken-clause-steps g c = begin_ends g.P.FastPort.fast c.args.t.now c.args.nb _ _ c.in-Taken.c (rw c.in-Taken.is at c.in_ok-c.ensures.steps)

pub begin_small-requires-clause-backed : goal.begin_small-requires-clause-backed
begin_small-requires-clause-backed g c = backed_step serial_values c.requires.backed (rw c.in-Onward.is at c.in_ok-c.ensures.steps)

pub returns-in-Onward-clause-steps : goal.returns-in-Onward-clause-steps
returns-in-Onward-clause-steps g c = begin_goes g.P.FastPort.fast c.args.t.now c.args.nb _ _ _ c.begin_small.result (rw c.in-Onward.is at c.in_ok-c.ensures.steps) c.begin_small.ensures.steps
