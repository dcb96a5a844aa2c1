use Rattle.std.proofs.Common.{sym, ap, ◌∙◌}
use Rattle.chunk_tags.specs.BinOrder.{best_of}
use Rattle.chunk_tags.specs.Sizes.{large_index_of}
use Rattle.arena_rules.specs.PlainArena.{bin_at}
use Rattle.arena_ground.specs.Grounds.{GroundView}
use Rattle.arena_ground.proofs.Bridges.{bin_is}
use Rattle.arena_ground.proofs.Keeping.{held}
use Rattle.arena_ground.proofs.Sorting.{have_tiles, falling_at, best_tile}
use Rattle.arena_ground.proofs.ground.GroundMoves.best.Goals as goal

pub best-requires-clause-tiles : goal.best-requires-clause-tiles
best-requires-clause-tiles c = have_tiles _ _ _ _ (held _ _ _ _ _ c.self.invariant.ground c.self.view_is c.requires.sound)

pub best-requires-clause-falling : goal.best-requires-clause-falling
best-requires-clause-falling c = falling_at _ _ _ _ c.args.nb (held _ _ _ _ _ c.self.invariant.ground c.self.view_is c.requires.sound) c.requires.large

pub best-requires-clause-free : goal.best-requires-clause-free
best-requires-clause-free c = best_tile _ _ _ _ c.args.nb (large_index_of c.args.nb) (held _ _ _ _ _ c.self.invariant.ground c.self.view_is c.requires.sound)

pub returns : goal.returns
returns c =
    c.best.ensures
    ∙ (ap (best_of c.args.nb) (sym (bin_is c.self.inside.tiles.tiles c.self.inside.links.lists (large_index_of c.args.nb)))
    ∙ ap (λ (v : GroundView). best_of c.args.nb (bin_at v.arena (large_index_of c.args.nb))) c.self.view_is)

pub best-requires-clause-firsts : goal.best-requires-clause-firsts
best-requires-clause-firsts c = c.self.invariant.firsts
