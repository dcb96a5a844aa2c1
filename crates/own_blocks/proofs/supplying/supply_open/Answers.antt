use Rattle.std.proofs.Common.{sym, refl, ap, ◌∙◌}
use Rattle.own_blocks.proofs.LeftCalls.{left_uncached}
use Rattle.own_blocks.proofs.Supplies.{supplies_past, supplies_cached}
use Rattle.thread_cache.specs.Caches.{structure_of}
use Rattle.own_blocks.proofs.Structures.{got_same}
use Rattle.own_blocks.proofs.supplying.supply_open.Goals as goal

pub supply_from_arena-requires-clause-served : goal.supply_from_arena-requires-clause-served
supply_from_arena-requires-clause-served g c = λ k l. rw c.in-None.ensures.unchanged c.requires.served

pub returns-in-None-clause-supplies : goal.returns-in-None-clause-supplies
returns-in-None-clause-supplies g c =
    supplies_past _ _ _ c.args.who.now.thread c.args.bytes c.args.nb _ _ c.args.cache.now c.take_newest.new.cache c.supply_from_arena.new.cache _ c.supply_from_arena.result
    (sym c.take_newest.ensures.newest ∙ c.in-None.is) c.in-None.ensures.unchanged c.supply_from_arena.ensures.supplies

pub returns-in-None-clause-short : goal.returns-in-None-clause-short
returns-in-None-clause-short g c = rw (sym c.in-None.ensures.unchanged) c.supply_from_arena.ensures.short

pub returns-in-Some-clause-supplies : goal.returns-in-Some-clause-supplies
returns-in-Some-clause-supplies g c =
    supplies_cached _ _ _ c.args.who.now.thread c.args.bytes c.args.nb _ c.args.cache.now c.take_newest.new.cache _ c.in-Some.block g.met.P.Places.laws.same refl
    (sym c.take_newest.ensures.newest ∙ c.in-Some.is) c.take_newest.ensures.rest c.in-Some.ensures.held c.in-Some.ensures.size c.in-Some.ensures.arena

pub returns-in-None-clause-left : goal.returns-in-None-clause-left
returns-in-None-clause-left g c =
    left_uncached _ _ _ c.args.who.now.thread c.args.bytes c.args.nb _ _ c.args.cache.now c.take_newest.new.cache _ c.supply_from_arena.result
    (sym c.take_newest.ensures.newest ∙ c.in-None.is) c.in-None.ensures.unchanged c.supply_from_arena.ensures.left

pub returns-in-Some-clause-structure : goal.returns-in-Some-clause-structure
returns-in-Some-clause-structure g c = ap structure_of c.take_newest.ensures.rest ∙ got_same c.args.nb c.args.cache.now
