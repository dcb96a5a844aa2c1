use Rattle.std.proofs.Common.{◌≡◌, sym, ap, ◌∙◌, subst}
use Rattle.arena_rules.specs.Moves.{hand, joined_behind, is_free_tile}
use Rattle.arena_ground.specs.Grounds.{GroundView, arena_with}
use Rattle.heap_top.proofs.TopLaws.{pair_below}
use Rattle.arena_ground.proofs.Firsts.{falling_bins, still}
use Rattle.arena_ground.proofs.Keeping.{ground_below, held}
use Rattle.arena_ground.proofs.Sorting.{have_tiles}
use Rattle.arena_ground.proofs.Moving.{own_tile}
use Rattle.arena_ground.proofs.Joining.{pair_behind, join_behind_done, behind_not}
use Rattle.arena_ground.proofs.ground.GroundMoves.join_behind.Goals as goal

pub behind-u-requires-clause-tile : goal.behind-u-requires-clause-tile
behind-u-requires-clause-tile c =
    let g = held _ _ _ _ _ c.self.invariant.ground c.self.view_is c.requires.sound in
    own_tile _ _ _ _ c.args.c g (rw (← c.self.view_is) at c.requires.own)

pub join-requires-clause-tile : goal.join-requires-clause-tile
join-requires-clause-tile c =
    let g = held _ _ _ _ _ c.self.invariant.ground c.self.view_is c.requires.sound in
    own_tile _ _ _ _ c.args.c g (rw (← c.self.view_is) at c.requires.own)

pub join-requires-clause-listed : goal.join-requires-clause-listed
join-requires-clause-listed c =
    let g = held _ _ _ _ _ c.self.invariant.ground c.self.view_is c.requires.sound in
    (pair_behind _ _ _ _ c.args.c _ g (rw (← c.self.view_is) at c.requires.own) c.behind-u.ensures (sym c.is_free.ensures ∙ c.if-is_free.true)).linked

pub invariant_of-self : goal.invariant_of-self
invariant_of-self c =
    let g = held _ _ _ _ _ c.self.invariant.ground c.self.view_is c.requires.sound in
    let j = join_behind_done _ _ _ _ _ c.args.c _ g (rw (← c.self.view_is) at c.requires.own) c.behind-u.ensures (sym c.is_free.ensures ∙ c.if-is_free.true) c.join.ensures.lists c.join.ensures.extent in
    rw c.join.ensures.tiles (still j.done j.bins c.join.ensures.firsts)

pub returns-then-is_free : goal.returns-then-is_free
returns-then-is_free c =
    let g = held _ _ _ _ _ c.self.invariant.ground c.self.view_is c.requires.sound in
    rw (c.join.ensures.tiles, c.join.ensures.chunk) (join_behind_done _ _ _ _ _ c.args.c _ g (rw (← c.self.view_is) at c.requires.own) c.behind-u.ensures (sym c.is_free.ensures ∙ c.if-is_free.true) c.join.ensures.lists c.join.ensures.extent).is
    ∙ ap (λ (v : GroundView). joined_behind (hand c.args.c v.arena)) c.self.view_is

pub returns-else-is_free : goal.returns-else-is_free
returns-else-is_free c =
    let h = hand c.args.c (arena_with c.self.inside.regions c.self.inside.tiles c.self.inside.links c.self.inside.last) in
    subst (λ (v : GroundView). hand c.args.c v.arena ≡ joined_behind (hand c.args.c v.arena)) c.self.view_is
    (sym (behind_not h (ap is_free_tile c.behind-u.ensures ∙ (sym c.is_free.ensures ∙ c.if-is_free.false))))

pub join-requires-clause-below : goal.join-requires-clause-below
join-requires-clause-below c =
    let g = held _ _ _ _ _ c.self.invariant.ground c.self.view_is c.requires.sound in
    pair_below c.self.inside.tiles.tiles _ _ c.args.c.at (ground_below _ _ _ _ c.self.invariant.ground) (own_tile _ _ _ _ c.args.c g (rw (← c.self.view_is) at c.requires.own)) c.behind-u.ensures

pub join-requires-clause-tiles : goal.join-requires-clause-tiles
join-requires-clause-tiles c = have_tiles _ _ _ _ (held _ _ _ _ _ c.self.invariant.ground c.self.view_is c.requires.sound)

pub join-requires-clause-falling : goal.join-requires-clause-falling
join-requires-clause-falling c = falling_bins _ _ _ _ (held _ _ _ _ _ c.self.invariant.ground c.self.view_is c.requires.sound)

pub join-requires-clause-firsts : goal.join-requires-clause-firsts
join-requires-clause-firsts c = c.self.invariant.firsts
