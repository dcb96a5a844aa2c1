use Rattle.std.proofs.Common.{refl, sym, ◌∙◌, arith}
use Rattle.std.proofs.lemmas.Bool.{leb-true}
use Rattle.malloc_calls.proofs.Resettlings.{kept_mapped}
use Rattle.malloc_calls.proofs.in_mapping.keep_or_move.Goals as goal

pub returns-then-has_room-clause-resettles : goal.returns-then-has_room-clause-resettles
returns-then-has_room-clause-resettles g c =
    let room = sym c.has_room.ensures ∙ c.if-has_room.true in
    rw c.kept_block.ensures
    (kept_mapped _ _ _ _ c.args.nb c.args.block c.args.cache.now _ (rw room refl) c.requires.held c.requires.arena
    (omega (arith, leb-true c.args.nb _ room, c.requires.held.chunk.0)))
