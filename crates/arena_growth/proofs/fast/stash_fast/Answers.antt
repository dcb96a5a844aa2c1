use Rattle.std.proofs.Common.{◌≡◌, true, false, sym, ◌∙◌, rules}
use Rattle.arena_growth.proofs.FastBins.{stashing_starts, stashing_more, more_short, stashing_short, stashing_short_of_pop, stashing_full, stashing_empty}
use Rattle.arena_growth.proofs.fast.stash_fast.Goals as goal

pub stashing-init : goal.stashing-init
stashing-init g c = stashing_starts g.P.FastPort.fast c.args.nb _ _ _ c.requires.backed

pub returns-in_err-ask_room-clause-stashes : goal.returns-in_err-ask_room-clause-stashes
returns-in_err-ask_room-clause-stashes g c =
    rw c.in_err-ask_room.ensures.short
    (stashing_short g.P.FastPort.fast c.args.nb _ _ _ _ _ c.from_residual.result c.from_residual.ensures.0 c.stashing.invariant)

pub returns-clause-stashes : goal.returns-clause-stashes
returns-clause-stashes g c =
    let full : c.in_ok-ask_room.field-0 ≡ false = search rules in
    rw (c.in_ok-ask_room.ensures.told, full)
    (stashing_full g.P.FastPort.fast c.args.nb _ _ _ _ _ c.stashing.invariant (sym full ∙ c.in_ok-ask_room.ensures.room))

pub returns-in_err-at-clause-stashes : goal.returns-in_err-at-clause-stashes
returns-in_err-at-clause-stashes g c =
    let room : c.in_ok-ask_room.field-0 ≡ true = search rules in
    rw (c.in_err-at.ensures.port, c.in_err-at.ensures.short, c.in_ok-ask_room.ensures.told, room)
    (stashing_short_of_pop g.P.FastPort.fast c.args.nb _ _ _ _ _ c.from_residual-in_err-at.result c.from_residual-in_err-at.ensures.0 c.stashing.invariant (sym room ∙ c.in_ok-ask_room.ensures.room))

pub returns-in-None-clause-stashes : goal.returns-in-None-clause-stashes
returns-in-None-clause-stashes g c =
    let room : c.in_ok-ask_room.field-0 ≡ true = search rules in
    let did = rw (c.fast_index.ensures, c.in-None.is) at c.in_ok-at.ensures.popped in
    rw (c.in_ok-at.ensures.told, c.in-None.is, c.in_ok-ask_room.ensures.told, room)
    (stashing_empty g.P.FastPort.fast c.args.nb _ _ _ _ _ _ c.stashing.invariant (sym room ∙ c.in_ok-ask_room.ensures.room) did)

pub stashing-smaller : goal.stashing-smaller
stashing-smaller g c =
    let room : c.in_ok-ask_room.field-0 ≡ true = search rules in
    rw c.stash.ensures (more_short _ c.args.nb c.in-Some.at _ c.requires.chunk c.in_ok-ask_room.ensures.sound (sym room ∙ c.in_ok-ask_room.ensures.room))

pub stashing-preserved : goal.stashing-preserved
stashing-preserved g c =
    let room : c.in_ok-ask_room.field-0 ≡ true = search rules in
    let did = rw (c.fast_index.ensures, c.in-Some.is) at c.in_ok-at.ensures.popped in
    rw (c.stash.ensures, c.number.ensures, c.in_ok-at.ensures.told, c.in-Some.is, c.in_ok-ask_room.ensures.told, room)
    (stashing_more g.P.FastPort.fast c.args.nb c.in-Some.at _ _ _ _ _ _ c.requires.chunk c.stashing.invariant c.in_ok-ask_room.ensures.sound (sym room ∙ c.in_ok-ask_room.ensures.room) did)
