use Rattle.std.proofs.Common.{ap, ◌∙◌, arith}
use Rattle.arena_rules.specs.Search.{sorted_in}
use Rattle.arena_rules.proofs.ChunkMoves.{listed_tile}
use Rattle.arena_ground.specs.Grounds.{GroundView, arena_with}
use Rattle.arena_ground.proofs.Firsts.{unsorted_stands}
use Rattle.arena_ground.proofs.Keeping.{held, high_tile}
use Rattle.arena_ground.proofs.Sorting.{have_tiles, falling_rest, unsorted_listed, sort_done}
use Rattle.arena_ground.proofs.ground.GroundMoves.sort_in.Goals as goal

pub sort_in-requires-clause-tile : goal.sort_in-requires-clause-tile
sort_in-requires-clause-tile c =
    let a = arena_with c.self.inside.regions c.self.inside.tiles c.self.inside.links c.self.inside.last in
    let g = held _ _ _ _ _ c.self.invariant.ground c.self.view_is c.requires.sound in
    listed_tile a c.args.c g.sound (unsorted_listed a c.args.c (rw (← c.self.view_is) at c.requires.unsorted))

pub sort_in-requires-clause-high : goal.sort_in-requires-clause-high
sort_in-requires-clause-high c =
    let a = arena_with c.self.inside.regions c.self.inside.tiles c.self.inside.links c.self.inside.last in
    let g = held _ _ _ _ _ c.self.invariant.ground c.self.view_is c.requires.sound in
    let some = unsorted_listed a c.args.c (rw (← c.self.view_is) at c.requires.unsorted) in
    omega (arith, high_tile _ _ _ _ c.args.c.at _ g (listed_tile a c.args.c g.sound some))

pub sort_in-requires-clause-unsorted : goal.sort_in-requires-clause-unsorted
sort_in-requires-clause-unsorted c =
    let stands = unsorted_stands c.self.inside.tiles.tiles c.args.c c.self.inside.links.lists (rw (← c.self.view_is) at c.requires.unsorted) in
    omega (arith, stands)

pub sort_in-requires-clause-firsts : goal.sort_in-requires-clause-firsts
sort_in-requires-clause-firsts c = c.self.invariant.firsts

pub sort_in-requires-clause-tiles : goal.sort_in-requires-clause-tiles
sort_in-requires-clause-tiles c = have_tiles _ _ _ _ (held _ _ _ _ _ c.self.invariant.ground c.self.view_is c.requires.sound)

pub sort_in-requires-clause-falling : goal.sort_in-requires-clause-falling
sort_in-requires-clause-falling c =
    let a = arena_with c.self.inside.regions c.self.inside.tiles c.self.inside.links c.self.inside.last in
    let g = held _ _ _ _ _ c.self.invariant.ground c.self.view_is c.requires.sound in
    falling_rest _ _ _ _ c.args.c g (unsorted_listed a c.args.c (rw (← c.self.view_is) at c.requires.unsorted))

pub invariant_of-self : goal.invariant_of-self
invariant_of-self c =
    let a = arena_with c.self.inside.regions c.self.inside.tiles c.self.inside.links c.self.inside.last in
    let g = held _ _ _ _ _ c.self.invariant.ground c.self.view_is c.requires.sound in
    let d = sort_done _ _ _ _ _ c.args.c g (unsorted_listed a c.args.c (rw (← c.self.view_is) at c.requires.unsorted)) c.sort_in.ensures.lists c.sort_in.ensures.extent in
    record { ground = d.kept; firsts = c.sort_in.ensures.firsts }

pub returns : goal.returns
returns c =
    let a = arena_with c.self.inside.regions c.self.inside.tiles c.self.inside.links c.self.inside.last in
    let g = held _ _ _ _ _ c.self.invariant.ground c.self.view_is c.requires.sound in
    (sort_done _ _ _ _ _ c.args.c g (unsorted_listed a c.args.c (rw (← c.self.view_is) at c.requires.unsorted)) c.sort_in.ensures.lists c.sort_in.ensures.extent).is
    ∙ ap (λ (v : GroundView). sorted_in v.arena c.args.c) c.self.view_is
