use Rattle.std.proofs.Common.{◌≡◌, ◌+◌, ◌-◌, [], ◌∷◌, Some, refl, sym, ap, ◌∙◌, subst, arith}
use Rattle.std.specs.Option.{IsSome}
use Rattle.chunk_tags.specs.Tiles.{tile_at, swapped}
use Rattle.chunk_tags.specs.declared.tiles.Tile.{Tile}
use Rattle.chunk_tags.specs.declared.tiles.TileKind.TheVariants.{Used}
use Rattle.arena_rules.specs.Moves.{tile_of}
use Rattle.heap_top.proofs.TopLaws.{same_found}
use Rattle.arena_ground.proofs.steps.part.Goals as goal

pub tile-t-requires : goal.tile-t-requires
tile-t-requires c = subst IsSome (sym c.requires.tile) refl

pub split-requires-clause-tile : goal.split-requires-clause-tile
split-requires-clause-tile c =
    let is = same_found c.args.c.at c.args.tiles.now.tiles _ c.tile-t.result c.requires.tile c.tile-t.ensures.tile in
    subst (λ (t : Tile). tile_at t.addr c.args.tiles.now.tiles ≡ Some t) (sym is) c.requires.tile

pub split-requires-clause-less : goal.split-requires-clause-less
split-requires-clause-less c =
    omega (arith, ap (λ (t : Tile). t.size) (same_found c.args.c.at _ _ c.tile-t.result c.requires.tile c.tile-t.ensures.tile), c.requires.rest.0)

pub returns-clause-tiles : goal.returns-clause-tiles
returns-clause-tiles c =
    let is = same_found c.args.c.at c.args.tiles.now.tiles _ c.tile-t.result c.requires.tile c.tile-t.ensures.tile in
    c.split.ensures
    ∙ ap (λ (t : Tile). record c.args.tiles.now { tiles = swapped t.addr (record t { size = c.args.nb; kind = Used } ∷ tile_of Used (t.addr + c.args.nb) (t.size - c.args.nb) ∷ []) c.args.tiles.now.tiles }) is

pub returns-clause-rest : goal.returns-clause-rest
returns-clause-rest c =
    let is = same_found c.args.c.at c.args.tiles.now.tiles _ c.tile-t.result c.requires.tile c.tile-t.ensures.tile in
    let at : c.t.inside.0.0.0 + c.nb.inside.0 ≡ c.args.c.at + c.args.nb = omega (arith, ap (λ (t : Tile). t.addr) c.t.view_is, ap (λ (t : Tile). t.addr) is, c.nb.view_is) in
    let size : c.t.inside.0.1.0.0 - c.nb.inside.0 ≡ c.args.c.size - c.args.nb = omega (arith, ap (λ (t : Tile). t.size) c.t.view_is, ap (λ (t : Tile). t.size) is, c.nb.view_is) in
    λ i. record { at = at i; size = size i }

pub overflow_add-result : goal.overflow_add-result
overflow_add-result c =
    let is = same_found c.args.c.at c.args.tiles.now.tiles _ c.tile-t.result c.requires.tile c.tile-t.ensures.tile in
    omega (
      arith,
      c.tile-t.ensures.room.end,
      ap (λ (t : Tile). t.addr) c.t.view_is,
      ap (λ (t : Tile). t.addr) is,
      ap (λ (t : Tile). t.size) is,
      c.nb.view_is,
      c.requires.rest.0,
    )

pub overflow_sub-result : goal.overflow_sub-result
overflow_sub-result c =
    let is = same_found c.args.c.at c.args.tiles.now.tiles _ c.tile-t.result c.requires.tile c.tile-t.ensures.tile in
    omega (arith, ap (λ (t : Tile). t.size) c.t.view_is, ap (λ (t : Tile). t.size) is, c.nb.view_is, c.requires.rest.0)
