use Rattle.std.proofs.Common.{arith}
use Rattle.arena_growth.proofs.Carved.{can_part, can_shelve}
use Rattle.arena_growth.proofs.Enough.{enough_listed}
use Rattle.arena_growth.proofs.carve.carve.Goals as goal

pub part-requires-clause-sound : goal.part-requires-clause-sound
part-requires-clause-sound g c =
    rw c.claim.ensures (can_part _ c.args.c.now c.args.nb c.requires.sound c.requires.listed c.requires.chunk (omega arith)).sound

pub part-requires-clause-own : goal.part-requires-clause-own
part-requires-clause-own g c =
    rw c.claim.ensures (can_part _ c.args.c.now c.args.nb c.requires.sound c.requires.listed c.requires.chunk (omega arith)).own

pub part-requires-clause-rest : goal.part-requires-clause-rest
part-requires-clause-rest g c =
    (can_part _ c.args.c.now c.args.nb c.requires.sound c.requires.listed c.requires.chunk (omega arith)).rest

pub shelve-requires-clause-sound : goal.shelve-requires-clause-sound
shelve-requires-clause-sound g c =
    rw (c.part.ensures.arena, c.claim.ensures)
    (can_shelve _ c.args.c.now c.args.nb c.requires.sound c.requires.listed c.requires.chunk (omega arith)).sound

pub shelve-requires-clause-own : goal.shelve-requires-clause-own
shelve-requires-clause-own g c =
    rw (c.part.ensures.arena, c.part.ensures.rest, c.claim.ensures)
    (can_shelve _ c.args.c.now c.args.nb c.requires.sound c.requires.listed c.requires.chunk (omega arith)).own

pub shelve-requires-clause-alone : goal.shelve-requires-clause-alone
shelve-requires-clause-alone g c =
    rw (c.part.ensures.arena, c.part.ensures.rest, c.claim.ensures)
    (can_shelve _ c.args.c.now c.args.nb c.requires.sound c.requires.listed c.requires.chunk (omega arith)).alone

pub returns-then-beyond-lt-MIN_CHUNK-clause-fits : goal.returns-then-beyond-lt-MIN_CHUNK-clause-fits
returns-then-beyond-lt-MIN_CHUNK-clause-fits g c = enough_listed (g.M.Moves.plain c.args.g.now) c.args.c.now c.args.nb c.requires.sound c.requires.listed c.requires.fits
