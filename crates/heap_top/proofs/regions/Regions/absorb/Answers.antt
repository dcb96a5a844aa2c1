use Rattle.std.proofs.Common.{◌≡◌, ◌+◌, Some, sym, ap, ◌∙◌, subst, refl, arith}
use Rattle.std.specs.Option.{IsSome}
use Rattle.chunk_tags.specs.declared.tiles.Tile.{Tile}
use Rattle.chunk_tags.specs.Tiles.{top_of}
use Rattle.chunk_tags.specs.declared.tiles.TileKind.TheVariants.{Top}
use Rattle.arena_rules.specs.Moves.{tile_of}
use Rattle.heap_top.specs.Regions.{bare_arena, arena_of}
use Rattle.heap_top.proofs.TopLaws.{fused_here, top_size_is, absorbed_is, same_found, pair_below}
use Rattle.heap_top.proofs.regions.Regions.absorb.Goals as goal

pub tile-requires : goal.tile-requires
tile-requires c =
    let x : Tile = tile_of Top c.args.c.at (c.args.c.size + c.behind-top.result.size) in
    rw c.fuse.ensures (subst IsSome (sym (fused_here c.args.c.at x _ _ c.requires.chunk refl)) refl)

pub returns-clause-size : goal.returns-clause-size
returns-clause-size c =
    let top : top_of c.args.tiles.now.tiles ≡ Some c.behind-top.result = sym c.requires.top ∙ c.behind-top.ensures in
    let x : Tile = tile_of Top c.args.c.at (c.args.c.size + c.behind-top.result.size) in
    let found = rw c.fuse.ensures at c.tile.ensures.tile in
    omega (
      arith,
      ap (λ (t : Tile). t.size) (same_found c.args.c.at _ x c.tile.result (fused_here c.args.c.at x _ _ c.requires.chunk refl) found),
      top_size_is (bare_arena c.args.self.now c.args.tiles.now.tiles) _ top,
    )

pub returns-clause-top : goal.returns-clause-top
returns-clause-top c =
    rw c.fuse.ensures (record { at = c.args.c.at; size = c.args.c.size + c.behind-top.result.size; known = refl; stands = fused_here _ _ _ _ c.requires.chunk refl })

pub returns-clause-arena : goal.returns-clause-arena
returns-clause-arena c =
    let top : top_of c.args.tiles.now.tiles ≡ Some c.behind-top.result = sym c.requires.top ∙ c.behind-top.ensures in
    rw c.fuse.ensures (λ bins last. absorbed_is (arena_of c.args.self.now c.args.tiles.now.tiles bins last) c.args.c _ top)

pub fuse-requires-clause-below : goal.fuse-requires-clause-below
fuse-requires-clause-below c =
    pair_below c.args.tiles.now.tiles _ _ c.args.c.at c.requires.below c.requires.chunk c.behind-top.ensures
