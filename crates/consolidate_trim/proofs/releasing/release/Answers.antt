use Rattle.std.proofs.Common.{ap, sym, arith}
use Rattle.std.proofs.lemmas.Result.{err_from_is_err_and}
use Rattle.chunk_tags.specs.declared.tiles.Chunk.{Chunk}
use Rattle.consolidate_trim.proofs.Carried.{carries_then, carries_short, carries_ends}
use Rattle.consolidate_trim.proofs.HoldSteps.{hand_size, idled_backed, passes_as, passes_room, passes_idled, passes_release, passes_stash, fresh_in_bin, passes_push, after_room_true, after_room_fast, after_room_given}
use Rattle.consolidate_trim.proofs.releasing.release.Goals as goal

pub returns-in_err-make_room-clause-gives : goal.returns-in_err-make_room-clause-gives
returns-in_err-make_room-clause-gives g c =
    let p = err_from_is_err_and c.from_residual.result c.from_residual.ensures.1 in
    carries_then (passes_room c.requires.backed.sound c.make_room.ensures.answers) (carries_short p.1 c.requires.backed.sound)

pub returns-in_err-make_room-2-clause-gives : goal.returns-in_err-make_room-2-clause-gives
returns-in_err-make_room-2-clause-gives g c =
    let p = err_from_is_err_and c.from_residual-in_err-make_room-2.result c.from_residual-in_err-make_room-2.ensures.1 in
    carries_then (passes_room c.requires.backed.sound c.make_room.ensures.answers)
    (carries_then (passes_idled c.requires.backed.sound c.make_room-2.ensures.idle) (carries_short p.1 c.requires.backed.sound))

pub stash-requires-clause-chunk : goal.stash-requires-clause-chunk
stash-requires-clause-chunk g c = hand_size c.args.c c.requires.backed

pub returns-then-room-clause-gives : goal.returns-then-room-clause-gives
returns-then-room-clause-gives g c =
    carries_then (passes_release c.args.c c.requires.backed.sound c.make_room.ensures.answers c.make_room-2.ensures.idle c.has_room-room.ensures.room c.tell.ensures)
    (carries_then (passes_as c.requires.backed.sound (after_room_true c.args.t.now _ c.args.c _ c.if-room.true))
    (carries_ends _ (passes_stash c.args.c c.requires.backed.sound c.has_room-room.ensures.sound (hand_size c.args.c c.requires.backed)
    (sym c.if-room.ensures.room) c.number.ensures c.stash.ensures)))

pub fast_index-requires-clause-chunk : goal.fast_index-requires-clause-chunk
fast_index-requires-clause-chunk g c = hand_size c.args.c c.requires.backed

pub push-requires-clause-fresh : goal.push-requires-clause-fresh
push-requires-clause-fresh g c = fresh_in_bin c.args.c c.requires.backed c.make_room-2.ensures.idle c.fast_index.ensures

pub returns-then-c-t-clause-gives : goal.returns-then-c-t-clause-gives
returns-then-c-t-clause-gives g c =
    carries_then (passes_release c.args.c c.requires.backed.sound c.make_room.ensures.answers c.make_room-2.ensures.idle c.has_room-room.ensures.room c.tell.ensures)
    (carries_then (passes_as c.requires.backed.sound (after_room_fast c.args.t.now _ c.args.c _ c.if-room.false (omega (arith, ap (λ (x : Chunk). x.size) c.c.view_is))))
    (carries_ends _ (passes_push c.args.c (idled_backed c.requires.backed c.make_room-2.ensures.idle) (hand_size c.args.c c.requires.backed) c.fast_index.ensures c.push.ensures)))

pub returns-clause-gives : goal.returns-clause-gives
returns-clause-gives g c =
    carries_then (passes_release c.args.c c.requires.backed.sound c.make_room.ensures.answers c.make_room-2.ensures.idle c.has_room-room.ensures.room c.tell.ensures)
    (carries_then (passes_as c.requires.backed.sound (after_room_given c.args.t.now _ c.args.c _ c.if-room.false (omega (arith, ap (λ (x : Chunk). x.size) c.c.view_is))))
    (c.give.ensures.gives c.args.cache.now))
