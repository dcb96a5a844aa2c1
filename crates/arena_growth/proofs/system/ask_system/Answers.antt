use Rattle.std.proofs.Common.{true, false}
use Rattle.consolidate_trim.specs.Outside.{means}
use Rattle.arena_growth.proofs.Nowhere.{nowhere_refused}
use Rattle.arena_growth.proofs.Systems.{system_short, system_goes, whether_ready, whether_allows}
use Rattle.arena_growth.proofs.system.ask_system.Goals as goal

pub returns-in_err-maps_first-clause-finds : goal.returns-in_err-maps_first-clause-finds
returns-in_err-maps_first-clause-finds g c = system_short _ c.args.t.now c.args.nb _ _ _ _ _ _ _ c.in_err-maps_first.field-0.0 c.from_residual.result c.from_residual.ensures.0 c.requires.ready.backed.sound c.in_err-maps_first.ensures.asks

pub map_or_grow-requires-clause-ready : goal.map_or_grow-requires-clause-ready
map_or_grow-requires-clause-ready g c = λ k l. whether_ready _ c.args.t.now c.args.nb _ _ _ _ _ _ _ c.in_ok-maps_first.field-0 c.requires.ready c.in_ok-maps_first.ensures.asks

pub map_or_grow-requires-clause-allows : goal.map_or_grow-requires-clause-allows
map_or_grow-requires-clause-allows g c = λ k l. whether_allows (means g.P.FastPort.fast g.P.Dials.dials g.K.Kernel.port) c.args.t.now c.args.nb _ _ _ _ _ _ c.requires.allows c.in_ok-maps_first.ensures.asks

pub returns-then-branch-clause-finds : goal.returns-then-branch-clause-finds
returns-then-branch-clause-finds g c = system_goes _ c.args.t.now c.args.nb _ _ _ _ _ _ _ true _ c.map_or_grow.result c.requires.ready.backed.sound (rw c.if-branch.true at c.in_ok-maps_first.ensures.asks) c.map_or_grow.ensures.finds

pub grow-requires-clause-ready : goal.grow-requires-clause-ready
grow-requires-clause-ready g c = λ k l. whether_ready _ c.args.t.now c.args.nb _ _ _ _ _ _ _ c.in_ok-maps_first.field-0 c.requires.ready c.in_ok-maps_first.ensures.asks

pub grow-requires-clause-allows : goal.grow-requires-clause-allows
grow-requires-clause-allows g c = λ k l untried. whether_allows (means g.P.FastPort.fast g.P.Dials.dials g.K.Kernel.port) c.args.t.now c.args.nb _ _ _ _ _ _ c.requires.allows c.in_ok-maps_first.ensures.asks

pub returns-clause-finds : goal.returns-clause-finds
returns-clause-finds g c = system_goes _ c.args.t.now c.args.nb _ _ _ _ _ _ _ false _ c.grow.result c.requires.ready.backed.sound (rw c.if-branch.false at c.in_ok-maps_first.ensures.asks) c.grow.ensures.finds

pub returns-then-branch-clause-refused : goal.returns-then-branch-clause-refused
returns-then-branch-clause-refused g c = nowhere_refused c.args.nb c.map_or_grow.result (returns-then-branch-clause-finds g c) c.requires.ready c.requires.tuned c.top_law.ensures c.requires.short

pub returns-clause-refused : goal.returns-clause-refused
returns-clause-refused g c = nowhere_refused c.args.nb c.grow.result (returns-clause-finds g c) c.requires.ready c.requires.tuned c.top_law.ensures c.requires.short
