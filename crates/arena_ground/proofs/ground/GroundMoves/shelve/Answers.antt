use Rattle.std.proofs.Common.{ap, ◌∙◌, arith, refl}
use Rattle.arena_rules.specs.Moves.{shelved}
use Rattle.arena_ground.specs.Grounds.{GroundView}
use Rattle.arena_ground.proofs.Firsts.{below_large, same_words, still}
use Rattle.arena_ground.proofs.Keeping.{held, high_tile}
use Rattle.arena_ground.proofs.Moving.{own_tile, used_unlinked, shelve_done}
use Rattle.arena_ground.proofs.ground.GroundMoves.shelve.Goals as goal

pub shelve-requires-clause-tile : goal.shelve-requires-clause-tile
shelve-requires-clause-tile c =
    let g = held _ _ _ _ _ c.self.invariant.ground c.self.view_is c.requires.sound in
    own_tile _ _ _ _ c.args.c g (rw (← c.self.view_is) at c.requires.own)

pub shelve-requires-clause-high : goal.shelve-requires-clause-high
shelve-requires-clause-high c =
    let g = held _ _ _ _ _ c.self.invariant.ground c.self.view_is c.requires.sound in
    let high = high_tile _ _ _ _ c.args.c.at _ g (own_tile _ _ _ _ c.args.c g (rw (← c.self.view_is) at c.requires.own)) in
    omega (arith, high)

pub shelve-requires-clause-unlisted : goal.shelve-requires-clause-unlisted
shelve-requires-clause-unlisted c =
    let g = held _ _ _ _ _ c.self.invariant.ground c.self.view_is c.requires.sound in
    used_unlinked _ _ _ _ c.args.c g (own_tile _ _ _ _ c.args.c g (rw (← c.self.view_is) at c.requires.own))

pub invariant_of-self : goal.invariant_of-self
invariant_of-self c =
    let g = held _ _ _ _ _ c.self.invariant.ground c.self.view_is c.requires.sound in
    rw c.shelve.ensures.tiles (still (shelve_done _ _ _ _ _ c.args.c g (rw (← c.self.view_is) at c.requires.own) (rw (← c.self.view_is) at c.requires.alone) c.shelve.ensures.lists c.shelve.ensures.extent) refl (same_words c.self.inside.links.extent _ c.self.inside.firsts c.shelve.ensures.extent (below_large 1 _ (omega arith) c.self.invariant.firsts)))

pub returns : goal.returns
returns c =
    let g = held _ _ _ _ _ c.self.invariant.ground c.self.view_is c.requires.sound in
    rw c.shelve.ensures.tiles (shelve_done _ _ _ _ _ c.args.c g (rw (← c.self.view_is) at c.requires.own) (rw (← c.self.view_is) at c.requires.alone) c.shelve.ensures.lists c.shelve.ensures.extent).is
    ∙ ap (λ (v : GroundView). shelved v.arena c.args.c) c.self.view_is
