use Rattle.arena_tests.proofs.trim_tests.answers.Goals as goal

pub consolidate-requires : goal.consolidate-requires
consolidate-requires g c = c.in_ok-port.ensures

pub returns : goal.returns
returns g c = c.consolidate.ensures.empties.keeps.sound
