use Rattle.std.proofs.Common.{arith}
use Rattle.arena_rules.proofs.ChunkMoves.{own_count}
use Rattle.arena_rules.proofs.Own.{own_tile}
use Rattle.realloc_align.proofs.cutting.cut.Goals as goal

pub part-rest-requires-clause-rest : goal.part-rest-requires-clause-rest
part-rest-requires-clause-rest g c =
    let whole = (own_tile (g.M.Moves.plain c.args.g.now) c.args.c.now c.requires.sound (own_count (g.M.Moves.plain c.args.g.now) c.args.c.now c.requires.own)).size.1 in
    (omega arith, omega (arith, whole, c.requires.chunk.1))
