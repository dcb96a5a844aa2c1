use Rattle.consolidate_trim.proofs.Emptying.{empties_nothing}
use Rattle.consolidate_trim.proofs.releasing.consolidate_if.Goals as goal

pub returns-else-flag-clause-empties : goal.returns-else-flag-clause-empties
returns-else-flag-clause-empties g c = empties_nothing _ _ c.if-flag.false c.requires.sound
