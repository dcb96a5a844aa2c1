use Rattle.std.proofs.Common.{sym, ◌∙◌, ap}
use Rattle.std.proofs.lemmas.Result.{IfOk-from_err}
use Rattle.chunk_tags.specs.Tunables.{serial_values}
use Rattle.arena_growth.specs.Steps.{step_of}
use Rattle.arena_growth.proofs.BinnedLaws.{onward_short}
use Rattle.arena_growth.proofs.Looks.{look_ends, look_short, look_binned, sound_after}
use Rattle.arena_growth.proofs.looking.look.Goals as goal

pub returns-in_err-c-clause-steps : goal.returns-in_err-c-clause-steps
returns-in_err-c-clause-steps g c = look_short c.args.nb _ _ c.in_err-c.field-0.0 c.from_residual.result c.from_residual.ensures.0 c.in_err-c.ensures.steps

pub returns-in_err-c-clause-top : goal.returns-in_err-c-clause-top
returns-in_err-c-clause-top g c = IfOk-from_err c.from_residual.result _ c.from_residual.ensures.0

pub returns-in-Taken-clause-steps : goal.returns-in-Taken-clause-steps
returns-in-Taken-clause-steps g c = look_ends c.args.nb _ _ c.in-Taken.c (rw c.in-Taken.is at c.in_ok-c.ensures.steps)

pub take_binned-requires-clause-sound : goal.take_binned-requires-clause-sound
take_binned-requires-clause-sound g c = sound_after serial_values c.in_ok-c.ensures.steps

pub returns-in-Onward-clause-steps : goal.returns-in-Onward-clause-steps
returns-in-Onward-clause-steps g c = look_binned c.args.nb _ _ c.take_binned.result _ c.requires.chunk (rw c.in-Onward.is at c.in_ok-c.ensures.steps) c.take_binned.ensures.step

pub returns-in-Onward-clause-top : goal.returns-in-Onward-clause-top
returns-in-Onward-clause-top g c = λ onward. onward_short c.args.nb (g.M.Moves.plain c.scan.new.g) (g.M.Moves.plain c.take_binned.new.g) (ap (λ s. step_of s (g.M.Moves.plain c.take_binned.new.g)) (sym onward) ∙ c.take_binned.ensures.step)
