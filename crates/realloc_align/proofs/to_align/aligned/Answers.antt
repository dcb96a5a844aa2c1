use Rattle.std.proofs.Common.{inr, sym, subst}
use Rattle.consolidate_trim.specs.Holds.{no_chunk}
use Rattle.consolidate_trim.specs.Outside.{means}
use Rattle.arena_core.specs.Arenas.{RecordsShort, held}
use Rattle.arena_core.specs.declared.journal.Act.TheVariants.{Align}
use Rattle.arena_core.proofs.Recording.{can_align, records_replay, short_replay}
use Rattle.realloc_align.specs.Calls.{AlignsBlock}
use Rattle.realloc_align.proofs.Recorded.{align_recorded, align_short, take_fits}
use Rattle.realloc_align.proofs.to_align.aligned.Goals as goal

pub returns-in-Ok-align_in_arena-clause-taken : goal.returns-in-Ok-align_in_arena-clause-taken
returns-in-Ok-align_in_arena-clause-taken g c =
    let finds = rw c.in-Ok.ensures.empty at c.in-Ok-align_in_arena.ensures.finds in
    let added = rw (c.in-Ok.ensures.items, c.aligned_end.ensures) at c.append.ensures in
    let is = rw (c.number-number.ensures, c.as_ref-2.ensures, sym c.as_mut.ensures.value) at c.take_aligned.ensures in
    subst (λ m. AlignsBlock (means g.P.FastPort.fast g.P.Dials.dials g.K.Kernel.port) c.args.t.now c.args.who c.args.align c.args.nb (held (g.M.Moves.plain m) c.args.port.now c.args.cache.now c.args.space.now c.args.a.now.journal.items) c.take_aligned.result (held (g.M.Moves.plain c.align_in_arena.new.g) c.align_in_arena.new.port c.align_in_arena.new.cache c.align_in_arena.new.space c.append.new.self.items))
    c.as_mut.ensures.value
    (align_recorded _ c.args.t.now c.args.who c.args.align c.args.nb _ _ _ _ _ _ _ _ _ _ _ c.in-Ok-align_in_arena.found c.take_aligned.result finds added is)

pub returns-in-Ok-align_in_arena-clause-replay : goal.returns-in-Ok-align_in_arena-clause-replay
returns-in-Ok-align_in_arena-clause-replay g c = λ start old.
    records_replay start (can_align _ c.args.align c.args.nb _ (rw c.as_ref.ensures at c.top_law.ensures) c.requires.size c.requires.align c.requires.most c.requires.apart c.requires.ready.backed)
    (returns-in-Ok-align_in_arena-clause-taken g c).records old

pub returns-in-Err-clause-replay : goal.returns-in-Err-clause-replay
returns-in-Err-clause-replay g c = λ start old.
    let finds = rw c.in-Ok.ensures.empty at c.in-Err.ensures.finds in
    let added = rw c.in-Ok.ensures.items at c.append-in-Err.ensures in
    short_replay start (can_align _ c.args.align c.args.nb _ (rw c.as_ref.ensures at c.top_law.ensures) c.requires.size c.requires.align c.requires.most c.requires.apart c.requires.ready.backed)
    (inr (subst (λ m. RecordsShort (means g.P.FastPort.fast g.P.Dials.dials g.K.Kernel.port) c.args.t.now c.args.who (Align c.args.align c.args.nb) (held (g.M.Moves.plain m) c.args.port.now c.args.cache.now c.args.space.now c.args.a.now.journal.items) no_chunk (held (g.M.Moves.plain c.align_in_arena.new.g) c.align_in_arena.new.port c.align_in_arena.new.cache c.align_in_arena.new.space c.append-in-Err.new.self.items))
    c.as_mut.ensures.value
    (align_short _ c.args.t.now c.args.who c.args.align c.args.nb _ _ _ _ _ _ _ _ _ _ _ c.in-Err.field-0 finds added))) old

pub returns-in-Ok-align_in_arena-clause-fits : goal.returns-in-Ok-align_in_arena-clause-fits
returns-in-Ok-align_in_arena-clause-fits g c = take_fits c.args.align c.args.nb _ c.in-Ok-align_in_arena.found c.take_aligned.result c.take_aligned.ensures c.in-Ok-align_in_arena.ensures.fits
