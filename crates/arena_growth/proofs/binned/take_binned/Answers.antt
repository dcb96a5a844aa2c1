use Rattle.std.proofs.Common.{rules}
use Rattle.arena_growth.proofs.Chosen.{is_chosen}
use Rattle.arena_growth.proofs.binned.take_binned.Goals as goal

pub carve-requires-clause-listed : goal.carve-requires-clause-listed
carve-requires-clause-listed g c =
    rw c.choose.ensures.arena (is_chosen c.args.nb _ c.in-Some.c c.requires.sound c.requires.chunk (search rules)).listed

pub carve-requires-clause-fits : goal.carve-requires-clause-fits
carve-requires-clause-fits g c =
    (is_chosen c.args.nb _ c.in-Some.c c.requires.sound c.requires.chunk (search rules)).fits
