use Rattle.stats_text.specs.Report.{mapped_lines, mapped_line}
use Rattle.stats_text.proofs.Rooms.{when_err, lacks_more, kept_more}
use Rattle.stats_text.proofs.places.push_mapped_chunks.Goals as goal

pub returns-in_err-push_mapped-clause-full : goal.returns-in_err-push_mapped-clause-full
unfolding mapped_lines
returns-in_err-push_mapped-clause-full c =
    when_err c.from_residual.result (
    lacks_more mapped_line c.args.tiles.now c.loop-tile.tile-index c.tile-item.result c.tile-item.result c.args.out.now c.loop-tile.out c.tile-item.is
    c.loop-tile-test.true
    c.loop-tile.invariant.text
    c.loop-tile.invariant.room
    c.in_err-push_mapped.ensures.full
    )

pub returns-in_err-push_mapped-clause-kept : goal.returns-in_err-push_mapped-clause-kept
returns-in_err-push_mapped-clause-kept c =
    kept_more c.args.out.now c.loop-tile.out c.push_mapped.new.out _ c.loop-tile.invariant.text c.loop-tile.invariant.room c.in_err-push_mapped.ensures.kept
