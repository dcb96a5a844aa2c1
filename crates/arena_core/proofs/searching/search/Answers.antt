use Rattle.chunk_tags.specs.Tunables.{serial_values}
use Rattle.arena_core.proofs.Rounds.{search_short, search_found, search_goes, begin_ready, begin_allows}
use Rattle.arena_core.proofs.searching.search.Goals as goal

pub returns-in_err-c-clause-finds : goal.returns-in_err-c-clause-finds
returns-in_err-c-clause-finds g c = search_short _ c.args.t.now c.args.nb _ _ _ c.in_err-c.field-0.0 c.from_residual.result c.from_residual.ensures.0 c.in_err-c.ensures.steps

pub returns-in-Taken-clause-finds : goal.returns-in-Taken-clause-finds
returns-in-Taken-clause-finds g c = search_found _ c.args.t.now c.args.nb _ _ _ c.in-Taken.c (rw c.in-Taken.is at c.in_ok-c.ensures.steps)

pub go_round-requires-clause-ready : goal.go_round-requires-clause-ready
go_round-requires-clause-ready g c = λ k l. begin_ready _ c.args.t.now c.args.nb _ _ _ c.requires.ready (rw c.in-Onward.is at c.in_ok-c.ensures.steps)

pub go_round-requires-clause-allows : goal.go_round-requires-clause-allows
go_round-requires-clause-allows g c = λ k l. begin_allows serial_values c.requires.apart _ _ _ (rw c.in-Onward.is at c.in_ok-c.ensures.steps) c.requires.allows

pub returns-in-Onward-clause-finds : goal.returns-in-Onward-clause-finds
returns-in-Onward-clause-finds g c = search_goes _ c.args.t.now c.args.nb _ _ _ _ c.go_round.result (rw c.in-Onward.is at c.in_ok-c.ensures.steps) c.go_round.ensures.finds
