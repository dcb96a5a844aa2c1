use Rattle.std.proofs.Common.{refl, arith}
use Rattle.malloc_calls.specs.Reallocs.{moved_from_mapping}
use Rattle.arena_holds.proofs.Carrying.{served_fewer}
use Rattle.own_blocks.proofs.LeftCalls.{left_behind}
use Rattle.malloc_calls.proofs.Resettlings.{nothing_got, moved_out, short_before, served_own, served_got}
use Rattle.malloc_calls.proofs.in_mapping.move_from_mapping.Goals as goal

pub unmap_mapped-requires-clause-served : goal.unmap_mapped-requires-clause-served
unmap_mapped-requires-clause-served g c = λ k l.
    served_own (served_fewer g.met.P.Places.laws.fewer (λ weigh. weigh c.args.block) (λ w. omega arith)
    (served_got c.args.block g.met.P.Places.laws.same g.met.P.Places.laws.fewer c.in-Ok.ensures.supplies c.requires.served))

pub returns-in-Err-clause-short : goal.returns-in-Err-clause-short
returns-in-Err-clause-short g c = short_before c.args.block g.met.P.Places.laws.same c.requires.held c.in-Err.ensures.short

pub returns-in-None-clause-resettles : goal.returns-in-None-clause-resettles
returns-in-None-clause-resettles g c =
    rw c.refused_block.ensures
    (nothing_got (moved_from_mapping c.args.block) c.args.block c.in-Ok.found c.in-None.is refl c.requires.held c.in-Ok.ensures.supplies g.met.P.Places.laws.same)

pub returns-in-Some-clause-resettles : goal.returns-in-Some-clause-resettles
returns-in-Some-clause-resettles g c =
    rw c.got_block.ensures (moved_out _ c.args.block c.in-Some.got c.in-Ok.found c.in-Some.is c.in-Ok.ensures.supplies c.unmap_mapped.ensures.unmaps g.met.P.Places.laws.same)

pub returns-in-Err-clause-left : goal.returns-in-Err-clause-left
returns-in-Err-clause-left g c = left_behind (moved_from_mapping c.args.block) c.in-Err.ensures.left
