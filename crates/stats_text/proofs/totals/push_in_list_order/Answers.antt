use Rattle.std.proofs.Common.{◌+◌, ◌-◌, arith}
use Rattle.std.proofs.lemmas.Grind.{common_steps}
use Rattle.stats_text.specs.Totals.{all_arena_totals}
use Rattle.stats_text.proofs.ListOrder.{no_place, next_place}
use Rattle.stats_text.proofs.Rooms.{when_err, kept_more}
use Rattle.stats_text.proofs.ArenaRooms.{lacks_first}
use Rattle.stats_text.proofs.totals.push_in_list_order.Goals as goal

pub loop-place-init : goal.loop-place-init
unfolding all_arena_totals
loop-place-init c = rw (no_place c.args.arenas.now) (grind (arith, common_steps))

pub loop-place-preserved : goal.loop-place-preserved
unfolding all_arena_totals
loop-place-preserved c = rw (next_place c.args.arenas.now c.loop-place.place) (grind (arith, common_steps))

pub returns-in_err-push_arena_at-clause-full : goal.returns-in_err-push_arena_at-clause-full
returns-in_err-push_arena_at-clause-full c =
    when_err c.from_residual.result (
    lacks_first c.args.arenas.now c.loop-place.place c.place_count-place-end.result
    (c.place_count-place-end.result - (c.loop-place.place + 1))
    c.args.out.now
    c.loop-place.out
    (omega (arith, c.loop-place-test.true))
    c.place_count-place-end.ensures.all
    c.loop-place.invariant.text
    c.loop-place.invariant.room
    c.in_err-push_arena_at.ensures.full
    )

pub returns-in_err-push_arena_at-clause-kept : goal.returns-in_err-push_arena_at-clause-kept
returns-in_err-push_arena_at-clause-kept c =
    kept_more c.args.out.now c.loop-place.out c.push_arena_at.new.out _ c.loop-place.invariant.text c.loop-place.invariant.room c.in_err-push_arena_at.ensures.kept
