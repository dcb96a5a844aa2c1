use Rattle.std.proofs.Common.{inr, sym, subst}
use Rattle.consolidate_trim.specs.Outside.{means}
use Rattle.arena_core.specs.Arenas.{held}
use Rattle.arena_core.proofs.Recording.{can_resize, records_replay}
use Rattle.realloc_align.specs.Calls.{ResizesBlock, ResizesShort}
use Rattle.realloc_align.proofs.Recorded.{resize_recorded, resize_short, resize_short_replay}
use Rattle.realloc_align.proofs.to_size.resize.Goals as goal

pub returns-in-Ok-resize_in-clause-resized : goal.returns-in-Ok-resize_in-clause-resized
returns-in-Ok-resize_in-clause-resized g c =
    let resizes = rw c.in-Ok.ensures.empty at c.in-Ok-resize_in.ensures.resizes in
    let added = rw (c.in-Ok.ensures.items, c.ended_by.ensures) at c.append.ensures in
    let came = rw (c.number-number.ensures, c.as_ref.ensures, sym c.as_mut.ensures.value) at c.resize_to.ensures in
    subst (λ m. ResizesBlock (means g.P.FastPort.fast g.P.Dials.dials g.K.Kernel.port) c.args.t.now c.args.who c.args.b c.args.nb (held (g.M.Moves.plain m) c.args.port.now c.args.cache.now c.args.space.now c.args.a.now.journal.items) c.resize_to.result (held (g.M.Moves.plain c.resize_in.new.g) c.resize_in.new.port c.resize_in.new.cache c.resize_in.new.space c.append.new.self.items))
    c.as_mut.ensures.value
    (resize_recorded _ c.args.t.now c.args.who c.args.b c.args.nb _ _ _ _ _ _ _ _ _ _ _ c.in-Ok-resize_in.found c.resize_to.result resizes added came)

pub returns-in-Ok-resize_in-clause-replay : goal.returns-in-Ok-resize_in-clause-replay
returns-in-Ok-resize_in-clause-replay g c = λ start old.
    records_replay start (can_resize _ c.args.b.addr c.args.b.size c.args.nb _ c.requires.size c.requires.apart c.requires.backed)
    (returns-in-Ok-resize_in-clause-resized g c).records old

pub returns-in-Err-clause-short : goal.returns-in-Err-clause-short
returns-in-Err-clause-short g c =
    let resizes = rw c.in-Ok.ensures.empty at c.in-Err.ensures.resizes in
    let added = rw c.in-Ok.ensures.items at c.append-in-Err.ensures in
    let came = rw (c.number-number.ensures, c.as_ref.ensures, sym c.as_mut.ensures.value) at c.block_found.ensures in
    inr (subst (λ m. ResizesShort (means g.P.FastPort.fast g.P.Dials.dials g.K.Kernel.port) c.args.t.now c.args.who c.args.b c.args.nb (held (g.M.Moves.plain m) c.args.port.now c.args.cache.now c.args.space.now c.args.a.now.journal.items) c.block_found.result (held (g.M.Moves.plain c.resize_in.new.g) c.resize_in.new.port c.resize_in.new.cache c.resize_in.new.space c.append-in-Err.new.self.items))
    c.as_mut.ensures.value
    (resize_short _ c.args.t.now c.args.who c.args.b c.args.nb _ _ _ _ _ _ _ _ _ _ _ _ c.block_found.result resizes added came))

pub returns-in-Err-clause-replay : goal.returns-in-Err-clause-replay
returns-in-Err-clause-replay g c = λ start old.
    let resizes = rw c.in-Ok.ensures.empty at c.in-Err.ensures.resizes in
    let added = rw c.in-Ok.ensures.items at c.append-in-Err.ensures in
    let came = rw (c.number-number.ensures, c.as_ref.ensures, sym c.as_mut.ensures.value) at c.block_found.ensures in
    resize_short_replay start (can_resize _ c.args.b.addr c.args.b.size c.args.nb _ c.requires.size c.requires.apart c.requires.backed)
    (subst (λ m. ResizesShort (means g.P.FastPort.fast g.P.Dials.dials g.K.Kernel.port) c.args.t.now c.args.who c.args.b c.args.nb (held (g.M.Moves.plain m) c.args.port.now c.args.cache.now c.args.space.now c.args.a.now.journal.items) c.block_found.result (held (g.M.Moves.plain c.resize_in.new.g) c.resize_in.new.port c.resize_in.new.cache c.resize_in.new.space c.append-in-Err.new.self.items))
    c.as_mut.ensures.value
    (resize_short _ c.args.t.now c.args.who c.args.b c.args.nb _ _ _ _ _ _ _ _ _ _ _ _ c.block_found.result resizes added came)) old
