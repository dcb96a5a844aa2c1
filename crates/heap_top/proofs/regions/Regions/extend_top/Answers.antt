use Rattle.std.proofs.Common.{◌+◌, sym, ap, ◌∙◌, subst, arith}
use Rattle.chunk_tags.specs.declared.tiles.Tile.{Tile}
use Rattle.chunk_tags.specs.Tiles.{is_free, top_of}
use Rattle.chunk_image.specs.Rows.{IsWordSize}
use Rattle.arena_rules.specs.Moves.{with_top_size}
use Rattle.arena_rules.proofs.Changes.{tile_is}
use Rattle.arena_rules.proofs.Tops.{top_found}
use Rattle.heap_top.specs.Regions.{bare_arena}
use Rattle.heap_top.proofs.TopLaws.{top_size_is, top_end_is, no_top_end, sized_has_top, sized_is, longer_room}
use Rattle.heap_top.proofs.regions.Regions.extend_top.Goals as goal

pub overflow_add-top-inside : goal.overflow_add-top-inside
overflow_add-top-inside c = omega (
  arith,
  ap (λ (t : Tile). t.size) c.top-in-Some.view_is,
  c.requires.room.end,
  top_end_is (bare_arena c.args.self.now c.args.tiles.now.tiles) _ (sym c.in-Some.ensures.top),
)

pub set_size-requires-clause-tile : goal.set_size-requires-clause-tile
set_size-requires-clause-tile c = (top_found _ _ c.requires.known.row (sym c.in-Some.ensures.top)).found

pub set_size-requires-clause-kind : goal.set_size-requires-clause-kind
set_size-requires-clause-kind c = ap is_free (top_found _ _ c.requires.known.row (sym c.in-Some.ensures.top)).is

pub set_size-requires-clause-some : goal.set_size-requires-clause-some
set_size-requires-clause-some c =
    omega (arith, ap (λ (t : Tile). t.size) c.top-in-Some.view_is, (tile_is _ _ c.requires.known.row (top_found _ _ c.requires.known.row (sym c.in-Some.ensures.top)).found).size.0)

pub set_size-requires-clause-room : goal.set_size-requires-clause-room
set_size-requires-clause-room c = longer_room c.args.tiles.now.extent c.in-Some.top c.top-in-Some.inside.0.1.0.0 c.args.growth _ (ap (λ (t : Tile). t.size) c.top-in-Some.view_is)
    (top_end_is (bare_arena c.args.self.now c.args.tiles.now.tiles) _ (sym c.in-Some.ensures.top)) c.requires.room

pub returns-in-None-clause-top : goal.returns-in-None-clause-top
returns-in-None-clause-top c =
    absurd (omega (arith, c.requires.top, no_top_end (bare_arena c.args.self.now c.args.tiles.now.tiles) (sym c.in-None.ensures.top)))

pub returns-in-Some-clause-top : goal.returns-in-Some-clause-top
returns-in-Some-clause-top c = rw c.set_size.ensures (sized_has_top _ _ _ _ c.requires.known (sym c.in-Some.ensures.top))

pub returns-in-Some-clause-arena : goal.returns-in-Some-clause-arena
returns-in-Some-clause-arena c = λ a same.
    let top = sym c.in-Some.ensures.top in
    let size = ap (λ (t : Tile). t.size) c.top-in-Some.view_is in
    rw c.set_size.ensures (sized_is a _ _ _ same c.requires.known.row top) ∙ ap (λ n. with_top_size a (n + c.args.growth)) (size ∙ sym (top_size_is a _ (ap top_of same ∙ top)))

pub set_size-requires-clause-fits : goal.set_size-requires-clause-fits
set_size-requires-clause-fits c =
    subst (λ n. IsWordSize (n + c.args.growth)) (top_size_is (bare_arena c.args.self.now c.args.tiles.now.tiles) _ (sym c.in-Some.ensures.top) ∙ sym (ap (λ (t : Tile). t.size) c.top-in-Some.view_is)) c.requires.fits
