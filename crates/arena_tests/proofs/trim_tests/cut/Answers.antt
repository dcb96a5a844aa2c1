use Rattle.std.proofs.Common.{◌≡◌, ◌+◌, ◌≤◌, Some, ap, sym, ◌∙◌, subst, arith}
use Rattle.chunk_tags.specs.Tiles.{top_of}
use Rattle.chunk_tags.specs.declared.tiles.Tile.{Tile}
use Rattle.arena_rules.specs.PlainArena.{IsSound}
use Rattle.arena_rules.proofs.TopMoves.{cut_moved}
use Rattle.arena_tests.proofs.trim_tests.cut.Goals as goal

pub returns : goal.returns
returns g c =
    let a = c.args.g.now.arena in
    let top : top_of a.tiles ≡ Some c.expect-top.result = sym c.top.ensures ∙ c.expect-top.ensures in
    let room : c.args.nb + 32 ≤ c.expect-top.result.size = omega (arith, ap (λ (t : Tile). t.size) c.top-2.view_is) in
    subst IsSound (sym c.cut_top-at.ensures.arena) (cut_moved a c.expect-top.result c.args.nb c.requires top (omega arith, omega arith) room).sound
