use Rattle.std.proofs.Common.{None, arith}
use Rattle.arena_rules.specs.PlainArena.{empty_bins}
use Rattle.arena_rules.specs.Growth.{piece_taken}
use Rattle.heap_top.specs.Regions.{arena_of}
use Rattle.heap_top.proofs.MainMoves.{piece_kept}
use Rattle.arena_tests.proofs.MainScenes.{bare_scene, piece_part, scene_next}
use Rattle.arena_tests.proofs.region_tests.take_piece.Goals as goal

pub take_piece-requires-clause-main : goal.take_piece-requires-clause-main
take_piece-requires-clause-main g c = bare_scene c.args.main.now c.args.tiles.now c.requires

pub take_piece-requires-clause-range : goal.take_piece-requires-clause-range
take_piece-requires-clause-range g c =
    let placed = c.requires.placed in
    record {
      words = piece_part c.args.tiles.now c.args.main.now.next_piece c.args.len c.requires.words placed.pieces placed.piece_page (omega arith);
      some = omega arith;
      pages = omega arith;
      window = omega arith;
    }

pub returns : goal.returns
returns g c =
    let a = arena_of c.args.main.now c.args.tiles.now.tiles empty_bins None in
    let kept = piece_kept a c.args.len c.requires.sound c.requires.placed (omega arith) (omega arith) (omega arith) in
    scene_next c.args.main.now c.take_piece.new.self c.args.tiles.now c.take_piece.new.tiles (piece_taken a c.args.len) c.requires kept (c.take_piece.ensures.arena empty_bins None) c.take_piece.ensures.top c.take_piece.ensures.extent
