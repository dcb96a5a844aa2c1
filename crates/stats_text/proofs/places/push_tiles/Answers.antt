use Rattle.stats_text.specs.Report.{tile_lines, tile_line}
use Rattle.stats_text.proofs.Rooms.{when_err, lacks_more, kept_more}
use Rattle.stats_text.proofs.places.push_tiles.Goals as goal

pub returns-in_err-push_tile-clause-full : goal.returns-in_err-push_tile-clause-full
unfolding tile_lines
returns-in_err-push_tile-clause-full c =
    when_err c.from_residual.result (
    lacks_more tile_line c.args.tiles.now c.loop-tile.tile-index c.tile-item.result c.tile-item.result c.args.out.now c.loop-tile.out c.tile-item.is
    c.loop-tile-test.true
    c.loop-tile.invariant.text
    c.loop-tile.invariant.room
    c.in_err-push_tile.ensures.full
    )

pub returns-in_err-push_tile-clause-kept : goal.returns-in_err-push_tile-clause-kept
returns-in_err-push_tile-clause-kept c =
    kept_more c.args.out.now c.loop-tile.out c.push_tile.new.out _ c.loop-tile.invariant.text c.loop-tile.invariant.room c.in_err-push_tile.ensures.kept
