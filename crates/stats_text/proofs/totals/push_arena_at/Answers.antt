use Rattle.std.proofs.Common.{◌≡◌, true, arith}
use Rattle.std.specs.Prelude.{◌==◌}
use Rattle.std.proofs.lemmas.Bool.Decides.{nat_tests}
use Rattle.stats_text.proofs.Rooms.{when_err, kept_more}
use Rattle.stats_text.proofs.ArenaRooms.{lacks_those}
use Rattle.stats_text.proofs.totals.push_arena_at.Goals as goal

pub returns-in_err-push_arena_totals-clause-full : goal.returns-in_err-push_arena_totals-clause-full
returns-in_err-push_arena_totals-clause-full c =
    let passes : (c.arena-item.result.list == c.args.place) ≡ true = grind (arith, nat_tests) in
    when_err c.from_residual.result (
    lacks_those (λ a. a.list == c.args.place) c.args.arenas.now c.loop-arena.arena-index c.arena-item.result c.args.out.now c.loop-arena.out
    c.arena-item.is
    c.loop-arena-test.true
    passes
    c.loop-arena.invariant.text
    c.loop-arena.invariant.room
    c.in_err-push_arena_totals.ensures.full
    )

pub returns-in_err-push_arena_totals-clause-kept : goal.returns-in_err-push_arena_totals-clause-kept
returns-in_err-push_arena_totals-clause-kept c =
    kept_more c.args.out.now c.loop-arena.out c.push_arena_totals.new.out _ c.loop-arena.invariant.text c.loop-arena.invariant.room
    c.in_err-push_arena_totals.ensures.kept
