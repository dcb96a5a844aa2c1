use Rattle.std.proofs.Common.{◌≡◌, false, rules}
use Rattle.arena_growth.proofs.MainGrowth.{piece_short, piece_refused, piece_ready, piece_closed}
use Rattle.arena_growth.proofs.grow.grow_piece.Goals as goal

pub returns-in_err-ask_piece-clause-grows : goal.returns-in_err-ask_piece-clause-grows
returns-in_err-ask_piece-clause-grows g c =
    let asked = rw c.piece_for-len.ensures at c.in_err-ask_piece.ensures.asked in
    rw c.ask_piece.ensures.arena
    (piece_short _ c.args.t.now c.args.nb _ _ _ _ _ _ _ c.in_err-ask_piece.field-0.0 c.from_residual.result c.from_residual.ensures.0 c.requires.ready.backed.sound asked)

pub returns-then-not-branch-clause-grows : goal.returns-then-not-branch-clause-grows
returns-then-not-branch-clause-grows g c =
    let refused : c.in_ok-ask_piece.field-0 ≡ false = search rules in
    let asked = rw (c.piece_for-len.ensures, refused) at c.in_ok-ask_piece.ensures.asked in
    rw c.ask_piece.ensures.arena (piece_refused _ c.args.t.now c.args.nb _ _ _ _ _ _ _ c.requires.ready asked)

pub close-requires-clause-backed : goal.close-requires-clause-backed
close-requires-clause-backed g c = λ k l.
    let asked = rw (c.piece_for-len.ensures, c.if-not-branch.false) at c.in_ok-ask_piece.ensures.asked in
    rw (c.take_piece-rest.ensures.rest, c.take_piece-rest.ensures.arena, c.ask_piece.ensures.arena, c.piece_for-len.ensures)
    (piece_ready _ c.args.t.now c.args.nb _ _ _ _ _ _ _ c.requires.ready c.requires.tuned c.requires.size c.requires.short asked).backed

pub returns-clause-grows : goal.returns-clause-grows
returns-clause-grows g c =
    let asked = rw (c.piece_for-len.ensures, c.if-not-branch.false) at c.in_ok-ask_piece.ensures.asked in
    let closes = rw (c.take_piece-rest.ensures.rest, c.take_piece-rest.ensures.arena, c.ask_piece.ensures.arena, c.piece_for-len.ensures) at c.close.ensures.closes in
    piece_closed _ c.args.t.now c.args.nb _ _ _ _ _ _ _ _ _ _ _ _ c.close.result c.requires.ready c.requires.tuned c.requires.size c.requires.short asked closes
