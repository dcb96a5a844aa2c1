use Rattle.std.proofs.Common.{refl, sym, ap, ◌∙◌, subst}
use Rattle.std.specs.Option.{IsSome}
use Rattle.arena_rules.specs.Moves.{hand, joined_before}
use Rattle.arena_ground.specs.Grounds.{GroundView}
use Rattle.heap_top.proofs.TopLaws.{pair_below}
use Rattle.arena_ground.proofs.Firsts.{falling_bins, still}
use Rattle.arena_ground.proofs.Keeping.{ground_below, held}
use Rattle.arena_ground.proofs.Sorting.{have_tiles}
use Rattle.arena_ground.proofs.Moving.{own_tile}
use Rattle.arena_ground.proofs.Joining.{pair_before, join_before_done}
use Rattle.arena_ground.proofs.ground.GroundMoves.join_before.Goals as goal

pub free_before-requires-clause-tile : goal.free_before-requires-clause-tile
free_before-requires-clause-tile c =
    let g = held _ _ _ _ _ c.self.invariant.ground c.self.view_is c.requires.sound in
    subst IsSome (sym (own_tile _ _ _ _ c.args.c g (rw (← c.self.view_is) at c.requires.own))) refl

pub join-requires-clause-tile : goal.join-requires-clause-tile
join-requires-clause-tile c =
    let g = held _ _ _ _ _ c.self.invariant.ground c.self.view_is c.requires.sound in
    (pair_before _ _ _ _ c.args.c _ g (rw (← c.self.view_is) at c.requires.own) (sym c.in-Some.ensures)).found

pub join-requires-clause-behind : goal.join-requires-clause-behind
join-requires-clause-behind c =
    let g = held _ _ _ _ _ c.self.invariant.ground c.self.view_is c.requires.sound in
    (pair_before _ _ _ _ c.args.c _ g (rw (← c.self.view_is) at c.requires.own) (sym c.in-Some.ensures)).behind

pub join-requires-clause-listed : goal.join-requires-clause-listed
join-requires-clause-listed c =
    let g = held _ _ _ _ _ c.self.invariant.ground c.self.view_is c.requires.sound in
    (pair_before _ _ _ _ c.args.c _ g (rw (← c.self.view_is) at c.requires.own) (sym c.in-Some.ensures)).linked

pub invariant_of-self : goal.invariant_of-self
invariant_of-self c =
    let g = held _ _ _ _ _ c.self.invariant.ground c.self.view_is c.requires.sound in
    let j = join_before_done _ _ _ _ _ c.args.c _ g (rw (← c.self.view_is) at c.requires.own) (sym c.in-Some.ensures) c.join.ensures.lists c.join.ensures.extent in
    rw c.join.ensures.tiles (still j.done j.bins c.join.ensures.firsts)

pub returns-in-Some : goal.returns-in-Some
returns-in-Some c =
    let g = held _ _ _ _ _ c.self.invariant.ground c.self.view_is c.requires.sound in
    rw (c.join.ensures.tiles, c.join.ensures.chunk) (join_before_done _ _ _ _ _ c.args.c _ g (rw (← c.self.view_is) at c.requires.own) (sym c.in-Some.ensures) c.join.ensures.lists c.join.ensures.extent).is
    ∙ ap (λ (v : GroundView). joined_before (hand c.args.c v.arena)) c.self.view_is

pub join-requires-clause-below : goal.join-requires-clause-below
join-requires-clause-below c =
    let g = held _ _ _ _ _ c.self.invariant.ground c.self.view_is c.requires.sound in
    let pair = pair_before _ _ _ _ c.args.c _ g (rw (← c.self.view_is) at c.requires.own) (sym c.in-Some.ensures) in
    pair_below c.self.inside.tiles.tiles _ _ _ (ground_below _ _ _ _ c.self.invariant.ground) pair.found pair.behind

pub join-requires-clause-tiles : goal.join-requires-clause-tiles
join-requires-clause-tiles c = have_tiles _ _ _ _ (held _ _ _ _ _ c.self.invariant.ground c.self.view_is c.requires.sound)

pub join-requires-clause-falling : goal.join-requires-clause-falling
join-requires-clause-falling c = falling_bins _ _ _ _ (held _ _ _ _ _ c.self.invariant.ground c.self.view_is c.requires.sound)

pub join-requires-clause-firsts : goal.join-requires-clause-firsts
join-requires-clause-firsts c = c.self.invariant.firsts
