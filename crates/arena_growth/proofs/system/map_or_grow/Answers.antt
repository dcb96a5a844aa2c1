use Rattle.std.proofs.Common.{true}
use Rattle.arena_growth.proofs.Systems.{maps_short, maps_found, maps_refused, refused_map_ready}
use Rattle.arena_growth.proofs.system.map_or_grow.Goals as goal

pub returns-in_err-c-clause-finds : goal.returns-in_err-c-clause-finds
returns-in_err-c-clause-finds g c = maps_short _ c.args.t.now c.args.nb _ _ _ _ _ _ _ _ _ c.in_err-c.field-0.0 c.from_residual.result c.from_residual.ensures.0 c.requires.ready.backed.sound c.in_err-c.ensures.asks

pub returns-in-Some-clause-finds : goal.returns-in-Some-clause-finds
returns-in-Some-clause-finds g c = maps_found _ c.args.t.now c.args.nb _ _ _ _ _ _ _ _ _ c.in-Some.c c.requires.ready.backed.sound (rw c.in-Some.is at c.in_ok-c.ensures.asks)

pub grow-requires-clause-ready : goal.grow-requires-clause-ready
grow-requires-clause-ready g c = λ k l. refused_map_ready _ c.args.t.now c.args.nb _ _ _ _ _ _ _ _ c.requires.ready (rw c.in-None.is at c.in_ok-c.ensures.asks)

pub returns-in-None-clause-finds : goal.returns-in-None-clause-finds
returns-in-None-clause-finds g c = maps_refused _ c.args.t.now c.args.nb _ _ _ _ _ _ _ _ _ _ c.grow.result c.requires.ready.backed.sound (rw c.in-None.is at c.in_ok-c.ensures.asks) c.grow.ensures.finds
