use Rattle.std.proofs.Common.{None, arith}
use Rattle.arena_rules.specs.PlainArena.{empty_bins}
use Rattle.arena_rules.specs.Growth.{break_taken}
use Rattle.heap_top.specs.Regions.{arena_of}
use Rattle.heap_top.proofs.MainMoves.{break_kept}
use Rattle.arena_tests.proofs.MainScenes.{bare_scene, break_part, scene_next}
use Rattle.arena_tests.proofs.region_tests.grow.Goals as goal

pub take_break-requires-clause-main : goal.take_break-requires-clause-main
take_break-requires-clause-main g c = bare_scene c.args.main.now c.args.tiles.now c.requires

pub take_break-requires-clause-range : goal.take_break-requires-clause-range
take_break-requires-clause-range g c =
    let placed = c.requires.placed in
    record {
      words = break_part c.args.tiles.now c.args.main.now.break_at c.args.growth c.requires.words placed.start placed.break_page (omega arith);
      some = omega arith;
      pages = omega arith;
      window = omega arith;
    }

pub returns : goal.returns
returns g c =
    let a = arena_of c.args.main.now c.args.tiles.now.tiles empty_bins None in
    let kept = break_kept a c.args.growth c.requires.sound c.requires.placed (omega arith) (omega arith) (omega arith) in
    scene_next c.args.main.now c.take_break.new.self c.args.tiles.now c.take_break.new.tiles (break_taken a c.args.growth) c.requires kept (c.take_break.ensures.arena empty_bins None) c.take_break.ensures.top c.take_break.ensures.extent
