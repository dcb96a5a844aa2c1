use Rattle.std.proofs.Common.{Some, refl, sym, ap, ◌∙◌, subst}
use Rattle.std.specs.Option.{IsSome}
use Rattle.chunk_tags.specs.declared.tiles.Chunk.{Chunk}
use Rattle.chunk_tags.specs.Tiles.{tile_at}
use Rattle.arena_ground.specs.Grounds.{tile_chunk}
use Rattle.arena_ground.proofs.Bridges.{chunk_here}
use Rattle.arena_ground.proofs.Sorting.{chunk_found}
use Rattle.arena_ground.proofs.steps.best.Goals as goal

pub chunk_of-requires : goal.chunk_of-requires
chunk_of-requires c =
    let f = chunk_found _ _ c.in-Some.ensures in
    subst (λ n. IsSome (tile_at n c.args.tiles.now.tiles)) f.at (subst IsSome (sym (c.requires.free f.chunk f.is)) refl)

pub returns-in-Some : goal.returns-in-Some
returns-in-Some c =
    let f = chunk_found _ _ c.in-Some.ensures in
    ap (λ (d : Chunk). Some d) (c.chunk_of.ensures ∙ (ap (tile_chunk c.args.tiles.now.tiles) (sym f.at) ∙ chunk_here c.args.tiles.now.tiles f.chunk (c.requires.free f.chunk f.is)))
    ∙ sym f.is

pub best-requires-clause-firsts : goal.best-requires-clause-firsts
best-requires-clause-firsts c = c.requires.firsts.each
