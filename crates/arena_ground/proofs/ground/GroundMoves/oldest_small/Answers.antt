use Rattle.std.proofs.Common.{sym, ap, ◌∙◌}
use Rattle.chunk_tags.specs.BinOrder.{oldest_of}
use Rattle.chunk_tags.specs.Sizes.{small_index_of}
use Rattle.ordinary_bins.specs.Lists.{list_at}
use Rattle.arena_rules.specs.PlainArena.{bin_at}
use Rattle.arena_ground.specs.Grounds.{GroundView, chunks_at}
use Rattle.arena_ground.proofs.Bridges.{bin_is}
use Rattle.arena_ground.proofs.Keeping.{held}
use Rattle.arena_ground.proofs.Sorting.{have_tiles}
use Rattle.arena_ground.proofs.ground.GroundMoves.oldest_small.Goals as goal

pub oldest_in-requires-clause-tiles : goal.oldest_in-requires-clause-tiles
oldest_in-requires-clause-tiles c = have_tiles _ _ _ _ (held _ _ _ _ _ c.self.invariant.ground c.self.view_is c.requires.sound)

pub returns : goal.returns
returns c =
    c.oldest_in.ensures
    ∙ (ap (λ i. oldest_of (chunks_at c.self.inside.tiles.tiles (list_at i c.self.inside.links.lists))) c.small_index.ensures
    ∙ (ap oldest_of (sym (bin_is c.self.inside.tiles.tiles c.self.inside.links.lists (small_index_of c.args.nb)))
    ∙ ap (λ (v : GroundView). oldest_of (bin_at v.arena (small_index_of c.args.nb))) c.self.view_is))
