use Rattle.std.proofs.Common.{◌≡◌, Some, None, ap, sym, ◌∙◌, arith}
use Rattle.chunk_tags.specs.Tiles.{top_of}
use Rattle.chunk_tags.specs.declared.tiles.Tile.{Tile}
use Rattle.arena_rules.specs.PlainArena.{empty_bins}
use Rattle.arena_rules.specs.Trim.{main_cut, CanCutMain}
use Rattle.heap_top.specs.Regions.{arena_of}
use Rattle.heap_top.proofs.MainMoves.{trim_kept}
use Rattle.heap_top.proofs.TopLaws.{top_end_is, top_size_is}
use Rattle.arena_tests.proofs.MainScenes.{bare_scene, scene_next}
use Rattle.arena_tests.proofs.region_tests.trim.Goals as goal

pub cut_main-requires-clause-main : goal.cut_main-requires-clause-main
cut_main-requires-clause-main g c = bare_scene c.args.main.now c.args.tiles.now c.requires

pub returns : goal.returns
returns g c =
    let a = arena_of c.args.main.now c.args.tiles.now.tiles empty_bins None in
    let top : top_of a.tiles ≡ Some c.expect-top.result = sym c.top.ensures.top ∙ c.expect-top.ensures in
    let can : CanCutMain a c.args.bytes = record {
      at_break = omega (arith, ap (λ (t : Tile). t.size) c.top-2.view_is, ap (λ (t : Tile). t.addr) c.top-2.view_is, top_end_is a c.expect-top.result top);
      left = omega (arith, ap (λ (t : Tile). t.size) c.top-2.view_is, top_size_is a c.expect-top.result top);
      whole = omega arith;
    } in
    let kept = trim_kept a c.args.bytes c.requires.sound c.requires.placed can in
    scene_next c.args.main.now c.cut_main.new.self c.args.tiles.now c.cut_main.new.tiles (main_cut a c.args.bytes) c.requires kept (c.cut_main.ensures.arena empty_bins None) c.cut_main.ensures.top c.cut_main.ensures.extent
