use Rattle.std.proofs.Common.{◌≡◌, ◌-◌, sym, ap, ◌∙◌, refl, arith}
use Rattle.chunk_tags.specs.declared.tiles.Tile.{Tile}
use Rattle.chunk_tags.specs.Tiles.{is_free}
use Rattle.arena_rules.specs.PlainArena.{Plain}
use Rattle.arena_rules.specs.Moves.{top_size, with_top_size}
use Rattle.arena_rules.proofs.Tops.{top_found}
use Rattle.heap_top.specs.Regions.{bare_arena, arena_of}
use Rattle.heap_top.proofs.TopLaws.{top_size_is, tile_weighs, sized_has_top, sized_is}
use Rattle.heap_top.proofs.regions.Regions.shorten_heap.Goals as goal

pub overflow_sub-top-inside : goal.overflow_sub-top-inside
overflow_sub-top-inside c =
    omega (arith, ap (λ (t : Tile). t.size) c.top-in-Some.view_is, c.requires.left, top_size_is (bare_arena c.args.self.now c.args.tiles.now.tiles) _ (sym c.in-Some.ensures.top))

pub set_size-requires-clause-tile : goal.set_size-requires-clause-tile
set_size-requires-clause-tile c = (top_found _ _ c.requires.heaps.known.row (sym c.in-Some.ensures.top)).found

pub set_size-requires-clause-kind : goal.set_size-requires-clause-kind
set_size-requires-clause-kind c = ap is_free (top_found _ _ c.requires.heaps.known.row (sym c.in-Some.ensures.top)).is

pub set_size-requires-clause-some : goal.set_size-requires-clause-some
set_size-requires-clause-some c =
    omega (arith, ap (λ (t : Tile). t.size) c.top-in-Some.view_is, c.requires.left, top_size_is (bare_arena c.args.self.now c.args.tiles.now.tiles) _ (sym c.in-Some.ensures.top))

pub set_size-requires-clause-room : goal.set_size-requires-clause-room
set_size-requires-clause-room c =
    let size = ap (λ (t : Tile). t.size) c.top-in-Some.view_is in
    record { words = λ n lt. absurd (omega (arith, lt, size)); end = omega (arith, size, c.in-Some.ensures.room.end) }

pub set_size-requires-clause-fits : goal.set_size-requires-clause-fits
set_size-requires-clause-fits c =
    let a = bare_arena c.args.self.now c.args.tiles.now.tiles in
    let size = ap (λ (t : Tile). t.size) c.top-in-Some.view_is in
    let is = top_size_is a _ (sym c.in-Some.ensures.top) in
    let fits = c.in-Some.ensures.fits in
    record {
      whole = omega (arith, size, is, fits.whole, c.requires.pages, c.requires.left);
      below = omega (arith, size, fits.below);
    }

pub overflow_sub-self : goal.overflow_sub-self
overflow_sub-self c =
    let a = bare_arena c.args.self.now c.args.tiles.now.tiles in
    let top = sym c.in-Some.ensures.top in
    omega (
      arith,
      c.requires.left,
      top_size_is a _ top,
      tile_weighs (λ (t : Tile). t.size) c.in-Some.top.addr c.in-Some.top c.args.tiles.now.tiles (top_found _ _ c.requires.heaps.known.row top).found,
      c.requires.heaps.placed.tiled,
    )

pub returns-in-Some-clause-top : goal.returns-in-Some-clause-top
returns-in-Some-clause-top c = rw c.set_size.ensures (sized_has_top _ _ _ _ c.requires.heaps.known (sym c.in-Some.ensures.top))

pub returns-in-Some-clause-arena : goal.returns-in-Some-clause-arena
returns-in-Some-clause-arena c = λ bins last.
    let a = arena_of c.args.self.now c.args.tiles.now.tiles bins last in
    let top = sym c.in-Some.ensures.top in
    let size = ap (λ (t : Tile). t.size) c.top-in-Some.view_is in
    let at : with_top_size a (c.top-in-Some.inside.0.1.0.0 - c.args.bytes) ≡ with_top_size a (top_size a - c.args.bytes) = ap (λ n. with_top_size a (n - c.args.bytes)) (size ∙ sym (top_size_is a _ top)) in
    rw c.set_size.ensures (ap (λ (b : Plain). record b { system = a.system - c.args.bytes }) (sized_is a _ _ _ refl c.requires.heaps.known.row top ∙ at))
