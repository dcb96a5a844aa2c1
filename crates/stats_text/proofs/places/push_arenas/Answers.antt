use Rattle.stats_text.specs.Report.{arena_sections, arena_section}
use Rattle.stats_text.proofs.Rooms.{when_err, lacks_more, kept_more}
use Rattle.stats_text.proofs.places.push_arenas.Goals as goal

pub returns-in_err-push_arena-clause-full : goal.returns-in_err-push_arena-clause-full
unfolding arena_sections
returns-in_err-push_arena-clause-full c =
    when_err c.from_residual.result (
    lacks_more arena_section c.args.arenas.now c.loop-arena.arena-index c.arena-item.result c.arena-item.result c.args.out.now c.loop-arena.out c.arena-item.is
    c.loop-arena-test.true
    c.loop-arena.invariant.text
    c.loop-arena.invariant.room
    c.in_err-push_arena.ensures.full
    )

pub returns-in_err-push_arena-clause-kept : goal.returns-in_err-push_arena-clause-kept
returns-in_err-push_arena-clause-kept c =
    kept_more c.args.out.now c.loop-arena.out c.push_arena.new.out _ c.loop-arena.invariant.text c.loop-arena.invariant.room c.in_err-push_arena.ensures.kept
