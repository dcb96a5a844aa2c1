use Rattle.std.proofs.Common.{◌∙◌}
use Rattle.arena_core.proofs.Opens.{on_err}
use Rattle.malloc_calls.proofs.Resettlings.{resized_kept, resized_moved, resized_refused, resized_short, unresized_left, resized_left, served_refused}
use Rattle.own_blocks.proofs.Structures.{open_still}
use Rattle.malloc_calls.proofs.in_arena.resize_in_arena.Goals as goal

pub move_from_arena-requires-clause-served : goal.move_from_arena-requires-clause-served
move_from_arena-requires-clause-served g c = λ k l.
    served_refused c.args.nb c.args.a c.args.block c.in-Refused.block c.in_ok-hold.field-0.resized c.in-Refused.is c.in_ok-hold.ensures.resizes g.met.P.Places.laws.same
    c.requires.served

pub returns-in-Kept-clause-resettles : goal.returns-in-Kept-clause-resettles
returns-in-Kept-clause-resettles g c =
    rw c.kept_block.ensures
    (resized_kept c.args.who.now.thread c.args.size c.args.nb c.args.a c.args.block c.in-Kept.block c.args.cache.now c.origin.result c.in_ok-hold.field-0.resized c.in-Kept.is c.origin.ensures
    c.in_ok-hold.ensures.resizes)

pub returns-in-Moved-clause-resettles : goal.returns-in-Moved-clause-resettles
returns-in-Moved-clause-resettles g c =
    rw c.got_block.ensures
    (resized_moved c.args.who.now.thread c.args.size c.args.nb c.args.a c.args.block c.in-Moved.block c.args.cache.now c.origin-in-Moved.result c.in_ok-hold.field-0.resized c.in-Moved.is
    c.origin-in-Moved.ensures c.in_ok-hold.ensures.resizes)

pub returns-in-Refused-clause-resettles : goal.returns-in-Refused-clause-resettles
returns-in-Refused-clause-resettles g c =
    resized_refused c.args.who.now.thread c.args.size c.args.nb c.args.a c.args.block c.in-Refused.block c.args.cache.now c.move_from_arena.new.cache _ c.in_ok-hold.field-0.resized
    c.move_from_arena.result c.in-Refused.is c.in_ok-hold.ensures.resizes c.move_from_arena.ensures.resettles

pub returns-in-Refused-clause-short : goal.returns-in-Refused-clause-short
returns-in-Refused-clause-short g c =
    resized_short c.args.nb c.args.a c.args.block c.in-Refused.block c.args.cache.now c.move_from_arena.new.cache _ c.in_ok-hold.field-0.resized
    c.move_from_arena.result c.in-Refused.is c.in_ok-hold.ensures.resizes c.move_from_arena.ensures.short

pub returns-in_err-hold-clause-left : goal.returns-in_err-hold-clause-left
returns-in_err-hold-clause-left g c =
    on_err c.from_residual.result
    (unresized_left c.args.who.now.thread c.args.size c.args.nb c.args.a c.args.block c.args.cache.now c.in_err-hold.ensures.left)

pub returns-in-Refused-clause-left : goal.returns-in-Refused-clause-left
returns-in-Refused-clause-left g c =
    resized_left c.args.who.now.thread c.args.size c.args.nb c.args.a c.args.block c.in-Refused.block c.args.cache.now _ c.in_ok-hold.field-0.resized c.move_from_arena.result
    c.in-Refused.is c.in_ok-hold.ensures.resizes c.move_from_arena.ensures.left

pub returns-in-Refused-clause-kept : goal.returns-in-Refused-clause-kept
returns-in-Refused-clause-kept g c = λ was.
    c.move_from_arena.ensures.kept (open_still c.args.cache.now c.resize.new.self c.resize.ensures.structure was) ∙ c.resize.ensures.structure
