use Rattle.std.proofs.Common.{None}
use Rattle.own_blocks.proofs.Exits.{last_mapped, last_released, last_left, last_carries, last_short}
use Rattle.own_blocks.proofs.exit.release_last.Goals as goal

pub returns-in-None-clause-does : goal.returns-in-None-clause-does
returns-in-None-clause-does g c = last_mapped c.args.block c.in-None.is c.free_mapped.ensures.frees

pub returns-in-Ok-clause-does : goal.returns-in-Ok-clause-does
returns-in-Ok-clause-does g c = last_released c.in-Some.a c.args.block c.in-Some.is (c.in-Ok.ensures.releases None)

pub returns-in-Ok-clause-carries : goal.returns-in-Ok-clause-carries
returns-in-Ok-clause-carries g c = last_carries c.in-Some.a c.args.block g.met.P.Places.laws.same (c.in-Ok.ensures.releases None)

pub returns-in-Err-clause-carries : goal.returns-in-Err-clause-carries
returns-in-Err-clause-carries g c = last_short c.args.block g.met.P.Places.laws.same g.met.P.Places.laws.fewer (c.in-Err.ensures.short None)

pub returns-in-Err-clause-left : goal.returns-in-Err-clause-left
returns-in-Err-clause-left g c = last_left c.in-Some.a c.args.block c.in-Some.is (c.in-Err.ensures.left None)
