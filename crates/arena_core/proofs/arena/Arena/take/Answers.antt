use Rattle.std.proofs.Common.{inr, sym, subst}
use Rattle.consolidate_trim.specs.Holds.{no_chunk}
use Rattle.consolidate_trim.specs.Outside.{means}
use Rattle.arena_core.specs.Arenas.{FitsRequest, RecordsShort, Takes, held}
use Rattle.arena_core.specs.declared.journal.Act.TheVariants.{Take}
use Rattle.arena_core.proofs.Recording.{enough_taken, takes, takes_short, records_replay, short_replay, can_take}
use Rattle.arena_core.proofs.arena.Arena.take.Goals as goal

pub returns-in-Ok-clause-taken : goal.returns-in-Ok-clause-taken
returns-in-Ok-clause-taken g c =
    let found = rw c.in_ok-said.ensures.empty at c.in-Ok.ensures.finds in
    let added = rw (c.in_ok-said.ensures.items, c.ended_by.ensures) at c.append.ensures in
    let is = rw (c.number.ensures, c.as_ref-in-Ok.ensures) at c.take_found.ensures in
    subst (λ m. Takes (means g.P.FastPort.fast g.P.Dials.dials g.K.Kernel.port) c.args.t.now c.args.who (Take c.args.nb) (held (g.M.Moves.plain m) c.args.port.now c.args.cache.now c.args.space.now c.args.self.now.journal.items) c.take_found.result (held (g.M.Moves.plain c.search.new.g) c.search.new.port c.search.new.cache c.search.new.space c.append.new.self.items))
    c.as_mut.ensures.value
    (takes _ c.args.t.now c.args.who c.args.nb _ _ _ _ _ _ _ _ _ _ _ c.in-Ok.found c.take_found.result found added is)

pub returns-in-Ok-clause-replay : goal.returns-in-Ok-clause-replay
returns-in-Ok-clause-replay g c = λ start old.
    records_replay start (can_take _ c.args.nb _ (rw c.as_ref.ensures at c.top_law.ensures) c.requires.size c.requires.apart c.requires.ready.backed) (returns-in-Ok-clause-taken g c).records old

pub returns-in-Err-clause-replay : goal.returns-in-Err-clause-replay
returns-in-Err-clause-replay g c = λ start old.
    let found = rw c.in_ok-said.ensures.empty at c.in-Err.ensures.finds in
    let added = rw c.in_ok-said.ensures.items at c.append-in-Err.ensures in
    let short = subst (λ m. RecordsShort (means g.P.FastPort.fast g.P.Dials.dials g.K.Kernel.port) c.args.t.now c.args.who (Take c.args.nb) (held (g.M.Moves.plain m) c.args.port.now c.args.cache.now c.args.space.now c.args.self.now.journal.items) no_chunk (held (g.M.Moves.plain c.search.new.g) c.search.new.port c.search.new.cache c.search.new.space c.append-in-Err.new.self.items))
    c.as_mut.ensures.value
    (takes_short _ c.args.t.now c.args.who c.args.nb _ _ _ _ _ _ _ _ _ _ _ c.in-Err.field-0 found added) in
    short_replay start (can_take _ c.args.nb _ (rw c.as_ref.ensures at c.top_law.ensures) c.requires.size c.requires.apart c.requires.ready.backed) (inr short) old

pub returns-in-Ok-clause-fits : goal.returns-in-Ok-clause-fits
returns-in-Ok-clause-fits g c = subst (FitsRequest c.args.nb) (sym c.take_found.ensures) (enough_taken c.args.nb _ c.in-Ok.found c.in-Ok.ensures.fits)
