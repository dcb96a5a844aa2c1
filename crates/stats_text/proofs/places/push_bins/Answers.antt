use Rattle.stats_text.specs.Report.{bin_lines, bin_line}
use Rattle.stats_text.proofs.Rooms.{when_err, kept_more}
use Rattle.stats_text.proofs.ArenaRooms.{lacks_lists}
use Rattle.stats_text.proofs.places.push_bins.Goals as goal

pub returns-in_err-push_bin-clause-full : goal.returns-in_err-push_bin-clause-full
unfolding bin_lines
returns-in_err-push_bin-clause-full c =
    when_err c.from_residual.result (
    lacks_lists (bin_line c.args.name.now) c.args.bins.now c.loop-bin.bin-index c.bin-item.result c.args.out.now c.loop-bin.out c.bin-item.is
    c.loop-bin-test.true
    c.loop-bin.invariant.text
    c.loop-bin.invariant.room
    c.in_err-push_bin.ensures.full
    )

pub returns-in_err-push_bin-clause-kept : goal.returns-in_err-push_bin-clause-kept
returns-in_err-push_bin-clause-kept c =
    kept_more c.args.out.now c.loop-bin.out c.push_bin.new.out _ c.loop-bin.invariant.text c.loop-bin.invariant.room c.in_err-push_bin.ensures.kept
