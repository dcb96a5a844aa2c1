use Rattle.std.proofs.Common.{◌++◌}
use Rattle.std.specs.Prelude.{codes}
use Rattle.stats_text.specs.Words.{addresses, address}
use Rattle.stats_text.proofs.Rooms.{when_err, lacks_more, kept_more}
use Rattle.stats_text.proofs.words.push_addresses.Goals as goal

pub returns-in_err-push_spaced-clause-full : goal.returns-in_err-push_spaced-clause-full
unfolding addresses
returns-in_err-push_spaced-clause-full c =
    when_err c.from_residual.result (
    lacks_more (λ at. codes " " ++ address at) c.args.ats.now c.loop-at.at-index c.at-item.result c.at-item.result c.args.out.now c.loop-at.out c.at-item.is
    c.loop-at-test.true
    c.loop-at.invariant.text
    c.loop-at.invariant.room
    c.in_err-push_spaced.ensures.full
    )

pub returns-in_err-push_spaced-clause-kept : goal.returns-in_err-push_spaced-clause-kept
returns-in_err-push_spaced-clause-kept c =
    kept_more c.args.out.now c.loop-at.out c.push_spaced.new.out _ c.loop-at.invariant.text c.loop-at.invariant.room c.in_err-push_spaced.ensures.kept
