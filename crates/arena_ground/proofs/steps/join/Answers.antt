use Rattle.std.proofs.Common.{◌+◌, refl, sym, ap, ◌∙◌, subst}
use Rattle.std.specs.Option.{IsSome}
use Rattle.chunk_tags.specs.declared.tiles.Tile.{Tile}
use Rattle.chunk_tags.specs.declared.tiles.TileKind.TheVariants.{Used}
use Rattle.large_bins.specs.SeenChunks.{size_in}
use Rattle.arena_rules.specs.Moves.{tile_of}
use Rattle.heap_top.proofs.TopLaws.{fused_here}
use Rattle.arena_ground.proofs.steps.join.Goals as goal

pub chunk_of-requires : goal.chunk_of-requires
chunk_of-requires c =
    let x : Tile = tile_of Used c.args.t.now.addr (c.args.t.now.size + c.args.u.now.size) in
    rw c.fuse.ensures (subst IsSome (sym (fused_here c.args.t.now.addr x _ _ c.requires.tile refl)) refl)

pub returns-clause-chunk : goal.returns-clause-chunk
returns-clause-chunk c =
    let x : Tile = tile_of Used c.args.t.now.addr (c.args.t.now.size + c.args.u.now.size) in
    let is = rw c.fuse.ensures at c.chunk_of.ensures in
    is ∙ ap (λ o. record { at = c.args.t.now.addr; size = size_in o }) (fused_here c.args.t.now.addr x _ _ c.requires.tile refl)

pub forget-requires-clause-firsts : goal.forget-requires-clause-firsts
forget-requires-clause-firsts c = c.requires.firsts.each

pub forget-requires-clause-wider : goal.forget-requires-clause-wider
forget-requires-clause-wider c = c.requires.firsts.wider

pub returns-clause-firsts : goal.returns-clause-firsts
returns-clause-firsts c = record {
  each = rw c.unlink.ensures.lists c.forget.ensures.firsts;
  wider = rw (c.unlink.ensures.extent, c.forget.ensures.open) c.requires.firsts.wider;
}
