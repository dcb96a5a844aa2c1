use Rattle.std.proofs.Common.{None, inr}
use Rattle.arena_core.proofs.Recording.{gives, gives_short, records_replay, short_replay, can_give}
use Rattle.arena_core.proofs.arena.Arena.give.Goals as goal

pub returns-in-Ok-give-clause-given : goal.returns-in-Ok-give-clause-given
returns-in-Ok-give-clause-given g c = λ cache.
    let given = rw (c.in-Ok.ensures.empty, c.as_mut.ensures.value) at (c.in-Ok-give.ensures.gives cache) in
    let added = rw c.in-Ok.ensures.items at c.append.ensures in
    gives _ c.args.t.now c.args.who c.args.b.addr c.args.b.size _ _ _ _ cache _ _ _ _ _ given added

pub returns-in-Ok-give-clause-replay : goal.returns-in-Ok-give-clause-replay
returns-in-Ok-give-clause-replay g c = λ start old.
    let given = rw (c.in-Ok.ensures.empty, c.as_mut.ensures.value) at (c.in-Ok-give.ensures.gives None) in
    let added = rw c.in-Ok.ensures.items at c.append.ensures in
    records_replay start (can_give _ c.args.b.addr c.args.b.size _ c.requires.apart c.requires.backed) (gives _ c.args.t.now c.args.who c.args.b.addr c.args.b.size _ _ _ _ None _ _ _ _ _ given added) old

pub returns-in-Err-clause-short : goal.returns-in-Err-clause-short
returns-in-Err-clause-short g c = λ cache.
    let given = rw (c.in-Ok.ensures.empty, c.as_mut.ensures.value) at (c.in-Err.ensures.gives cache) in
    let added = rw c.in-Ok.ensures.items at c.append-in-Err.ensures in
    gives_short _ c.args.t.now c.args.who c.args.b.addr c.args.b.size _ _ _ _ cache _ _ _ _ _ c.in-Err.field-0 given added

pub returns-in-Err-clause-replay : goal.returns-in-Err-clause-replay
returns-in-Err-clause-replay g c = λ start old.
    let given = rw (c.in-Ok.ensures.empty, c.as_mut.ensures.value) at (c.in-Err.ensures.gives None) in
    let added = rw c.in-Ok.ensures.items at c.append-in-Err.ensures in
    short_replay start (can_give _ c.args.b.addr c.args.b.size _ c.requires.apart c.requires.backed) (inr (gives_short _ c.args.t.now c.args.who c.args.b.addr c.args.b.size _ _ _ _ None _ _ _ _ _ c.in-Err.field-0 given added)) old
