use Rattle.std.proofs.Common.{◌+◌, drop, ap, ◌∙◌}
use Rattle.chunk_tags.specs.Sizes.{bin_of}
use Rattle.arena_rules.specs.Search.{first_oldest}
use Rattle.arena_ground.specs.Grounds.{GroundView, bins_at}
use Rattle.arena_ground.proofs.Keeping.{held}
use Rattle.arena_ground.proofs.Sorting.{have_tiles}
use Rattle.arena_ground.proofs.ground.GroundMoves.first_larger.Goals as goal

pub first_oldest_from-requires-clause-tiles : goal.first_oldest_from-requires-clause-tiles
first_oldest_from-requires-clause-tiles c = have_tiles _ _ _ _ (held _ _ _ _ _ c.self.invariant.ground c.self.view_is c.requires.sound)

pub returns-clause-chunk : goal.returns-clause-chunk
returns-clause-chunk c =
    c.first_oldest_from.ensures
    ∙ (ap (λ n. first_oldest (drop (n + 1) (bins_at c.self.inside.tiles.tiles c.self.inside.links.lists))) c.bin_of.ensures
    ∙ ap (λ (v : GroundView). first_oldest (drop (bin_of c.args.nb + 1) v.arena.bins)) c.self.view_is)
