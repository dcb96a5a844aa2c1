use Rattle.std.proofs.Common.{refl}
use Rattle.malloc_calls.specs.Reallocs.{moved_from_arena}
use Rattle.own_blocks.proofs.LeftCalls.{left_behind}
use Rattle.malloc_calls.proofs.Resettlings.{nothing_got, moved_away, moved_left, moved_short, short_before, served_got}
use Rattle.malloc_calls.proofs.in_arena.move_from_arena.Goals as goal

pub release-requires-clause-served : goal.release-requires-clause-served
release-requires-clause-served g c = λ k l.
    served_got c.args.block g.met.P.Places.laws.same g.met.P.Places.laws.fewer c.in-Ok.ensures.supplies c.requires.served

pub returns-in-Err-clause-short : goal.returns-in-Err-clause-short
returns-in-Err-clause-short g c = short_before c.args.block g.met.P.Places.laws.same c.requires.held c.in-Err.ensures.short

pub returns-in-None-clause-resettles : goal.returns-in-None-clause-resettles
returns-in-None-clause-resettles g c =
    rw c.refused_block.ensures
    (nothing_got (moved_from_arena c.args.t.now c.args.a c.args.block) c.args.block c.in-Ok.found c.in-None.is refl c.requires.held c.in-Ok.ensures.supplies g.met.P.Places.laws.same)

pub returns-in-Ok-release-clause-resettles : goal.returns-in-Ok-release-clause-resettles
returns-in-Ok-release-clause-resettles g c =
    rw c.got_block.ensures (moved_away c.args.a _ c.args.block c.in-Some.got c.in-Ok.found c.in-Some.is c.in-Ok.ensures.supplies c.in-Ok-release.ensures.releases g.met.P.Places.laws.same)

pub returns-in-Err-release-clause-short : goal.returns-in-Err-release-clause-short
returns-in-Err-release-clause-short g c =
    moved_short _ c.args.block c.in-Some.got c.in-Ok.found c.in-Err-release._lost.back c.in-Some.is c.in-Ok.ensures.supplies c.in-Err-release.ensures.short g.met.P.Places.laws.same
    g.met.P.Places.laws.fewer

pub returns-in-Err-clause-left : goal.returns-in-Err-clause-left
returns-in-Err-clause-left g c = left_behind (moved_from_arena c.args.t.now c.args.a c.args.block) c.in-Err.ensures.left

pub returns-in-Err-release-clause-left : goal.returns-in-Err-release-clause-left
returns-in-Err-release-clause-left g c =
    moved_left c.args.a _ c.args.block c.in-Some.got c.in-Ok.found c.in-Some.is c.in-Ok.ensures.supplies c.in-Err-release.ensures.left
