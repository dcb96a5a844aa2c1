use Rattle.stats_text.specs.Report.{cache_lines, cache_line}
use Rattle.stats_text.proofs.Rooms.{when_err, lacks_more, kept_more}
use Rattle.stats_text.proofs.places.push_caches.Goals as goal

pub returns-in_err-push_cache-clause-full : goal.returns-in_err-push_cache-clause-full
unfolding cache_lines
returns-in_err-push_cache-clause-full c =
    when_err c.from_residual.result (
    lacks_more cache_line c.args.caches.now c.loop-cache.cache-index c.cache-item.result c.cache-item.result c.args.out.now c.loop-cache.out c.cache-item.is
    c.loop-cache-test.true
    c.loop-cache.invariant.text
    c.loop-cache.invariant.room
    c.in_err-push_cache.ensures.full
    )

pub returns-in_err-push_cache-clause-kept : goal.returns-in_err-push_cache-clause-kept
returns-in_err-push_cache-clause-kept c =
    kept_more c.args.out.now c.loop-cache.out c.push_cache.new.out _ c.loop-cache.invariant.text c.loop-cache.invariant.room c.in_err-push_cache.ensures.kept
