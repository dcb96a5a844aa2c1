use Rattle.std.proofs.Common.{arith}
use Rattle.arena_holds.specs.Places.{in_cache}
use Rattle.malloc_calls.specs.Reallocs.{resize_in_arena}
use Rattle.own_blocks.proofs.Calling.{carries_hand}
use Rattle.arena_holds.proofs.Carrying.{served_after, served_fewer}
use Rattle.arena_holds.proofs.Searches.{err_map}
use Rattle.own_blocks.proofs.LeftCalls.{left_behind, left_then}
use Rattle.malloc_calls.proofs.Resettlings.{settles_then, short_then, short_before}
use Rattle.malloc_calls.proofs.in_arena.realloc_in_arena.Goals as goal

pub open_cache-requires-clause-served : goal.open_cache-requires-clause-served
open_cache-requires-clause-served g c = λ k l. served_fewer g.met.P.Places.laws.fewer (in_cache c.args.cache.now) (λ w. omega arith) c.requires.served

pub resize_in_arena-requires-clause-served : goal.resize_in_arena-requires-clause-served
resize_in_arena-requires-clause-served g c = λ k l.
    served_after g.met.P.Places.laws.same c.requires.served
    (carries_hand g.met.P.Places.laws.same c.args.block c.args.cache.now c.open_cache.new.cache c.in-Ok.ensures.carries)

pub returns-in-Ok-clause-resettles : goal.returns-in-Ok-clause-resettles
returns-in-Ok-clause-resettles g c =
    settles_then c.args.nb c.args.block c.args.cache.now c.open_cache.new.cache c.resize_in_arena.new.cache _ _ _
    (resize_in_arena c.args.t.now c.args.who.now.thread c.args.size c.args.nb c.args.a c.args.block) c.resize_in_arena.result g.met.P.Places.laws.same c.in-Ok.ensures.does c.in-Ok.ensures.later
    c.in-Ok.ensures.carries c.resize_in_arena.ensures.resettles

pub returns-in-Ok-clause-short : goal.returns-in-Ok-clause-short
returns-in-Ok-clause-short g c =
    short_then _ c.args.nb c.args.block c.args.cache.now c.open_cache.new.cache c.resize_in_arena.new.cache _ c.resize_in_arena.result g.met.P.Places.laws.same
    c.in-Ok.ensures.carries c.resize_in_arena.ensures.short

pub returns-in-Err-clause-short : goal.returns-in-Err-clause-short
returns-in-Err-clause-short g c = short_before c.args.block g.met.P.Places.laws.same c.requires.held c.in-Err.ensures.carries

pub returns-in-Ok-clause-left : goal.returns-in-Ok-clause-left
returns-in-Ok-clause-left g c =
    err_map c.resize_in_arena.result
    (λ l. left_then (resize_in_arena c.args.t.now c.args.who.now.thread c.args.size c.args.nb c.args.a c.args.block) c.in-Ok.ensures.does l) c.resize_in_arena.ensures.left

pub returns-in-Err-clause-left : goal.returns-in-Err-clause-left
returns-in-Err-clause-left g c =
    left_behind (resize_in_arena c.args.t.now c.args.who.now.thread c.args.size c.args.nb c.args.a c.args.block) c.in-Err.ensures.left
