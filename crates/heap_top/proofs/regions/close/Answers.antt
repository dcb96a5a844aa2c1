use Rattle.std.proofs.Common.{ap, arith}
use Rattle.chunk_tags.specs.declared.tiles.Tile.{Tile}
use Rattle.arena_rules.proofs.Changes.{tile_is}
use Rattle.arena_rules.proofs.Tops.{top_found}
use Rattle.heap_top.proofs.regions.close.Goals as goal

pub set_kind-requires-clause-tile : goal.set_kind-requires-clause-tile
set_kind-requires-clause-tile c = (top_found _ _ c.requires.row c.requires.top).found

pub split-requires-clause-tile : goal.split-requires-clause-tile
split-requires-clause-tile c = (top_found _ _ c.requires.row c.requires.top).found

pub split-requires-clause-whole : goal.split-requires-clause-whole
split-requires-clause-whole c =
    let tile = tile_is _ _ c.requires.row (top_found _ _ c.requires.row c.requires.top).found in
    omega (arith, c.if-top-lt64.false, tile.size.1, ap (λ (t : Tile). t.size) c.top.view_is)
