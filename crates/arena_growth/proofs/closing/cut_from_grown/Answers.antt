use Rattle.arena_growth.specs.declared.step.Step.TheVariants.{Taken, Onward}
use Rattle.arena_growth.proofs.Cutting.{cuts}
use Rattle.arena_growth.proofs.closing.cut_from_grown.Goals as goal

pub returns-in-Taken-clause-cut : goal.returns-in-Taken-clause-cut
returns-in-Taken-clause-cut g c =
    let is = rw (c.in-Taken.is, c.note_most.ensures) at c.take_top.ensures.step in
    cuts c.args.nb _ _ (Taken c.in-Taken.c) c.requires.sound c.requires.size.chunk is

pub returns-in-Onward-clause-cut : goal.returns-in-Onward-clause-cut
returns-in-Onward-clause-cut g c =
    let is = rw (c.in-Onward.is, c.note_most.ensures) at c.take_top.ensures.step in
    cuts c.args.nb _ _ Onward c.requires.sound c.requires.size.chunk is
