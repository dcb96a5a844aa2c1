use Rattle.std.proofs.Common.{sym, ap, ◌∙◌}
use Rattle.chunk_tags.specs.BinOrder.{oldest_of}
use Rattle.arena_rules.specs.PlainArena.{unsorted_of}
use Rattle.arena_ground.specs.Grounds.{GroundView}
use Rattle.arena_ground.proofs.Bridges.{bin_is}
use Rattle.arena_ground.proofs.Keeping.{held}
use Rattle.arena_ground.proofs.Sorting.{have_tiles}
use Rattle.arena_ground.proofs.ground.GroundMoves.oldest_unsorted.Goals as goal

pub oldest_in-requires-clause-tiles : goal.oldest_in-requires-clause-tiles
oldest_in-requires-clause-tiles c = have_tiles _ _ _ _ (held _ _ _ _ _ c.self.invariant.ground c.self.view_is c.requires)

pub returns : goal.returns
returns c =
    c.oldest_in.ensures
    ∙ (ap oldest_of (sym (bin_is c.self.inside.tiles.tiles c.self.inside.links.lists 1)) ∙ ap (λ (v : GroundView). oldest_of (unsorted_of v.arena)) c.self.view_is)
