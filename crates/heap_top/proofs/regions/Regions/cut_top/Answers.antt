use Rattle.std.proofs.Common.{◌+◌, Some, sym, ap, subst, arith}
use Rattle.chunk_tags.specs.declared.tiles.Tile.{Tile}
use Rattle.arena_rules.proofs.Tops.{top_found}
use Rattle.heap_top.specs.Regions.{bare_arena, HasTop}
use Rattle.heap_top.proofs.TopLaws.{has_room, no_room, cut_has_top}
use Rattle.heap_top.proofs.regions.Regions.cut_top.Goals as goal

pub split-requires-clause-tile : goal.split-requires-clause-tile
split-requires-clause-tile c = (top_found _ _ c.requires.known.row (sym c.in-Some.ensures.top)).found

pub split-requires-clause-less : goal.split-requires-clause-less
split-requires-clause-less c =
    omega (arith, has_room (bare_arena c.args.self.now c.args.tiles.now.tiles) _ c.args.nb (sym c.in-Some.ensures.top) c.requires.room)

pub overflow_add-self : goal.overflow_add-self
overflow_add-self c = omega (
  arith,
  c.in-Some.ensures.room.end,
  has_room (bare_arena c.args.self.now c.args.tiles.now.tiles) _ c.args.nb (sym c.in-Some.ensures.top) c.requires.room,
  ap (λ (t : Tile). t.addr) c.top-in-Some.view_is,
  c.nb.view_is,
)

pub returns-in-None-clause-top : goal.returns-in-None-clause-top
returns-in-None-clause-top c =
    absurd (no_room (bare_arena c.args.self.now c.args.tiles.now.tiles) c.args.nb (sym c.in-None.ensures.top) c.requires.room)

pub returns-in-Some-clause-top : goal.returns-in-Some-clause-top
returns-in-Some-clause-top c =
    let ts = c.args.tiles.now.tiles in
    let room = has_room (bare_arena c.args.self.now ts) _ c.args.nb (sym c.in-Some.ensures.top) c.requires.room in
    let is : HasTop (Some (c.in-Some.top.addr + c.args.nb)) c.split.new.self.tiles = rw c.split.ensures (cut_has_top _ _ _ c.requires.known.row (sym c.in-Some.ensures.top) (omega (arith, c.requires.chunk.0)) (omega (arith, room))) in
    subst (λ n. HasTop (Some n) c.split.new.self.tiles) (omega (arith, ap (λ (t : Tile). t.addr) c.top-in-Some.view_is, c.nb.view_is)) is
