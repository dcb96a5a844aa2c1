use Rattle.std.proofs.Common.{ap, ◌∙◌, arith, sym}
use Rattle.arena_rules.specs.Moves.{claimed}
use Rattle.arena_rules.proofs.ChunkMoves.{listed_tile}
use Rattle.arena_ground.specs.Grounds.{GroundView, arena_with, bins_at}
use Rattle.arena_ground.proofs.Bridges.{listed_times}
use Rattle.arena_ground.proofs.Firsts.{falling_bins, still}
use Rattle.arena_ground.proofs.Keeping.{held, lists_of}
use Rattle.arena_ground.proofs.Moving.{claim_done}
use Rattle.arena_ground.proofs.Sorting.{have_tiles, rest_bins}
use Rattle.arena_ground.proofs.ground.GroundMoves.claim.Goals as goal

pub claim-requires-clause-tile : goal.claim-requires-clause-tile
claim-requires-clause-tile c =
    let g = held _ _ _ _ _ c.self.invariant.ground c.self.view_is c.requires.sound in
    listed_tile (arena_with c.self.inside.regions c.self.inside.tiles c.self.inside.links c.self.inside.last) c.args.c g.sound (rw (← c.self.view_is) at c.requires.listed)

pub claim-requires-clause-listed : goal.claim-requires-clause-listed
claim-requires-clause-listed c =
    let g = held _ _ _ _ _ c.self.invariant.ground c.self.view_is c.requires.sound in
    let some = rw (← c.self.view_is) at c.requires.listed in
    omega (arith, some, listed_times (arena_with c.self.inside.regions c.self.inside.tiles c.self.inside.links c.self.inside.last) c.self.inside.links.lists c.args.c (lists_of _ _ _ _ g) some)

pub invariant_of-self : goal.invariant_of-self
invariant_of-self c =
    let g = held _ _ _ _ _ c.self.invariant.ground c.self.view_is c.requires.sound in
    let some = rw (← c.self.view_is) at c.requires.listed in
    let bins = ap (bins_at c.self.inside.tiles.tiles) c.claim.ensures.lists ∙ rest_bins _ _ _ _ c.args.c g some in
    rw c.claim.ensures.tiles (still (claim_done _ _ _ _ _ c.args.c g some c.claim.ensures.lists c.claim.ensures.extent) (sym bins) c.claim.ensures.firsts)

pub returns : goal.returns
returns c =
    let g = held _ _ _ _ _ c.self.invariant.ground c.self.view_is c.requires.sound in
    rw c.claim.ensures.tiles (claim_done _ _ _ _ _ c.args.c g (rw (← c.self.view_is) at c.requires.listed) c.claim.ensures.lists c.claim.ensures.extent).is
    ∙ ap (λ (v : GroundView). claimed v.arena c.args.c) c.self.view_is

pub claim-requires-clause-tiles : goal.claim-requires-clause-tiles
claim-requires-clause-tiles c = have_tiles _ _ _ _ (held _ _ _ _ _ c.self.invariant.ground c.self.view_is c.requires.sound)

pub claim-requires-clause-falling : goal.claim-requires-clause-falling
claim-requires-clause-falling c = falling_bins _ _ _ _ (held _ _ _ _ _ c.self.invariant.ground c.self.view_is c.requires.sound)

pub claim-requires-clause-firsts : goal.claim-requires-clause-firsts
claim-requires-clause-firsts c = c.self.invariant.firsts
