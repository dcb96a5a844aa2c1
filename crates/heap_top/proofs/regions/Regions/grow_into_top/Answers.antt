use Rattle.std.proofs.Common.{sym, ap, ◌∙◌, arith}
use Rattle.chunk_tags.specs.Tiles.{is_free}
use Rattle.arena_rules.proofs.Tops.{top_found}
use Rattle.heap_top.specs.Regions.{bare_arena, arena_of}
use Rattle.heap_top.proofs.TopLaws.{top_size_is, pair_below}
use Rattle.heap_top.proofs.IntoTop.{grown_has_top, grown_is}
use Rattle.heap_top.proofs.regions.Regions.grow_into_top.Goals as goal

pub shift_border-requires-clause-rest : goal.shift_border-requires-clause-rest
shift_border-requires-clause-rest c = ap is_free (top_found _ _ c.requires.row (sym c.requires.top ∙ c.behind-top.ensures)).is

pub shift_border-requires-clause-less : goal.shift_border-requires-clause-less
shift_border-requires-clause-less c =
    omega (arith, c.requires.room, top_size_is (bare_arena c.args.self.now c.args.tiles.now.tiles) _ (sym c.requires.top ∙ c.behind-top.ensures))

pub shift_border-requires-clause-below : goal.shift_border-requires-clause-below
shift_border-requires-clause-below c =
    pair_below c.args.tiles.now.tiles _ _ c.args.c.at c.requires.below c.requires.chunk c.behind-top.ensures

pub returns-clause-top : goal.returns-clause-top
returns-clause-top c =
    rw (c.shift_border.ensures.at, c.shift_border.ensures.tiles) (grown_has_top c.args.c c.behind-top.result c.args.nb c.args.tiles.now.tiles
    (record { row = c.requires.row; found = c.requires.chunk; behind = c.behind-top.ensures; top = sym c.requires.top ∙ c.behind-top.ensures }) (omega (arith, c.requires.size.0)))

pub returns-clause-arena : goal.returns-clause-arena
returns-clause-arena c =
    rw c.shift_border.ensures.tiles (λ bins last. grown_is (arena_of c.args.self.now c.args.tiles.now.tiles bins last) c.args.c c.behind-top.result c.args.nb
    (record { row = c.requires.row; found = c.requires.chunk; behind = c.behind-top.ensures; top = sym c.requires.top ∙ c.behind-top.ensures }))
