use Rattle.std.proofs.Common.{◌≡◌, ◌+◌, ◌≤◌, Some, None, ap, sym, ◌∙◌, arith}
use Rattle.std.proofs.lemmas.Bool.{le-leb}
use Rattle.chunk_tags.specs.Tiles.{top_of}
use Rattle.chunk_tags.specs.declared.tiles.Tile.{Tile}
use Rattle.arena_rules.specs.PlainArena.{empty_bins}
use Rattle.arena_rules.specs.Moves.{cut_from_top, top_size}
use Rattle.heap_top.specs.Regions.{arena_of}
use Rattle.heap_top.proofs.MainMoves.{cut_kept}
use Rattle.heap_top.proofs.TopLaws.{top_size_is}
use Rattle.arena_tests.proofs.MainScenes.{scene_next}
use Rattle.arena_tests.proofs.region_tests.cut.Goals as goal

pub returns : goal.returns
returns g c =
    let a = arena_of c.args.main.now c.args.tiles.now.tiles empty_bins None in
    let top : top_of a.tiles ≡ Some c.expect-top.result = sym c.top.ensures.top ∙ c.expect-top.ensures in
    let room : c.args.nb + 32 ≤ top_size a = omega (arith, ap (λ (t : Tile). t.size) c.top-2.view_is, top_size_is a c.expect-top.result top) in
    let kept = cut_kept a c.args.nb c.requires.sound c.requires.placed (omega arith, omega arith) (le-leb (c.args.nb + 32) (top_size a) room) in
    scene_next c.args.main.now c.cut_top.new.self c.args.tiles.now c.cut_top.new.tiles (cut_from_top a c.args.nb) c.requires kept (c.cut_top.ensures.arena empty_bins None) c.cut_top.ensures.top c.cut_top.ensures.extent
