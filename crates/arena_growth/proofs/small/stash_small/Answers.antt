use Rattle.std.proofs.Common.{sym, ◌∙◌}
use Rattle.arena_growth.proofs.SmallBins.{oldest_small, stashing_starts, stashing_more, more_short, stashing_short, stashing_full, stashing_empty}
use Rattle.arena_growth.proofs.small.stash_small.Goals as goal

pub stashing-init : goal.stashing-init
stashing-init g c = stashing_starts c.args.nb _ c.requires.sound

pub returns-in_err-ask_room-clause-stashes : goal.returns-in_err-ask_room-clause-stashes
returns-in_err-ask_room-clause-stashes g c =
    rw c.in_err-ask_room.ensures.short (stashing_short c.args.nb _ _ c.from_residual.result c.from_residual.ensures.0 c.stashing.invariant)

pub stash_free-requires-clause-listed : goal.stash_free-requires-clause-listed
stash_free-requires-clause-listed g c =
    (oldest_small _ c.args.nb c.in-Some.c c.stashing.invariant.balances.sound c.requires.chunk c.requires.small (sym c.in-Some.ensures)).listed

pub stash_free-requires-clause-room : goal.stash_free-requires-clause-room
stash_free-requires-clause-room g c =
    rw (oldest_small _ c.args.nb c.in-Some.c c.stashing.invariant.balances.sound c.requires.chunk c.requires.small (sym c.in-Some.ensures)).size
    (sym c.in_ok-ask_room.ensures.room ∙ c.if-branch.true)

pub stash_free-requires-clause-chunk : goal.stash_free-requires-clause-chunk
stash_free-requires-clause-chunk g c =
    (oldest_small _ c.args.nb c.in-Some.c c.stashing.invariant.balances.sound c.requires.chunk c.requires.small (sym c.in-Some.ensures)).chunk

pub stashing-smaller : goal.stashing-smaller
stashing-smaller g c =
    rw c.stash_free.ensures.cache
    (more_short _ c.args.nb c.in-Some.c _ c.stashing.invariant.balances.sound c.requires.chunk c.requires.small (sym c.in-Some.ensures) c.in_ok-ask_room.ensures.sound (sym c.if-branch.true ∙ c.in_ok-ask_room.ensures.room))

pub stashing-preserved : goal.stashing-preserved
stashing-preserved g c =
    rw (c.stash_free.ensures.arena, c.stash_free.ensures.cache, c.in_ok-ask_room.ensures.told, c.if-branch.true)
    (stashing_more c.args.nb _ _ c.in-Some.c c.stashing.invariant c.requires.chunk c.requires.small (sym c.in-Some.ensures) c.in_ok-ask_room.ensures.sound (sym c.if-branch.true ∙ c.in_ok-ask_room.ensures.room))

pub returns-else-branch-clause-stashes : goal.returns-else-branch-clause-stashes
returns-else-branch-clause-stashes g c =
    rw (c.in_ok-ask_room.ensures.told, c.if-branch.false)
    (stashing_full c.args.nb _ _ c.stashing.invariant (sym c.if-branch.false ∙ c.in_ok-ask_room.ensures.room))

pub returns-in-None-clause-stashes : goal.returns-in-None-clause-stashes
returns-in-None-clause-stashes g c =
    rw (c.in_ok-ask_room.ensures.told, c.if-branch.true)
    (stashing_empty c.args.nb _ _ c.stashing.invariant (sym c.if-branch.true ∙ c.in_ok-ask_room.ensures.room) c.in-None.ensures)
