use Rattle.std.proofs.Common.{◌≡◌, ◌-◌, suc, true, false, sym, ◌∙◌, arith, rules}
use Rattle.arena_growth.proofs.BreakTurns.{at_turns, turns_out, break_short, break_refused, refused_ready, break_ready, close_short, closed_enough, closed_again, again_ready}
use Rattle.arena_growth.proofs.grow.+grow_main.Goals as goal

pub returns-then-turns-eq0-clause-grows : goal.returns-then-turns-eq0-clause-grows
returns-then-turns-eq0-clause-grows g t c = turns_out _ c.args.t.now c.args.nb c.args.turns _ (omega arith) c.requires.ready.backed.sound

pub returns-in_err-ask_break-clause-grows : goal.returns-in_err-ask_break-clause-grows
returns-in_err-ask_break-clause-grows g t c =
    let up : c.args.turns ≡ suc (c.args.turns - 1) = omega arith in
    let asked = rw c.growth_for-growth.ensures at c.in_err-ask_break.ensures.asked in
    rw c.ask_break.ensures.arena
    (at_turns _ c.args.t.now c.args.nb c.args.turns (c.args.turns - 1) _ _ _ c.from_residual.result up
    (break_short _ c.args.t.now c.args.nb (c.args.turns - 1) _ _ _ _ _ _ _ c.in_err-ask_break.field-0.0 c.from_residual.result c.from_residual.ensures.0 c.requires.ready.backed.sound asked))

pub grow_piece-requires-clause-ready : goal.grow_piece-requires-clause-ready
grow_piece-requires-clause-ready g t c = λ k l.
    let refused : c.in_ok-ask_break.field-0 ≡ false = search rules in
    let asked = rw (c.growth_for-growth.ensures, refused) at c.in_ok-ask_break.ensures.asked in
    rw c.ask_break.ensures.arena (refused_ready _ c.args.t.now c.args.nb _ _ _ _ _ _ _ c.requires.ready asked)

pub returns-then-not-branch-clause-grows : goal.returns-then-not-branch-clause-grows
returns-then-not-branch-clause-grows g t c =
    let up : c.args.turns ≡ suc (c.args.turns - 1) = omega arith in
    let refused : c.in_ok-ask_break.field-0 ≡ false = search rules in
    let asked = rw (c.growth_for-growth.ensures, refused) at c.in_ok-ask_break.ensures.asked in
    let piece = rw c.ask_break.ensures.arena at c.grow_piece.ensures.grows in
    at_turns _ c.args.t.now c.args.nb c.args.turns (c.args.turns - 1) _ _ _ c.grow_piece.result up
    (break_refused _ c.args.t.now c.args.nb (c.args.turns - 1) _ _ _ _ _ _ _ _ c.grow_piece.result c.requires.ready asked piece)

pub close-requires-clause-backed : goal.close-requires-clause-backed
close-requires-clause-backed g t c = λ k l.
    let granted : c.in_ok-ask_break.field-0 ≡ true = search rules in
    let asked = rw (c.growth_for-growth.ensures, granted) at c.in_ok-ask_break.ensures.asked in
    rw (c.take_break-rest.ensures.rest, c.take_break-rest.ensures.arena, c.ask_break.ensures.arena, c.growth_for-growth.ensures)
    (break_ready _ c.args.t.now c.args.nb _ _ _ _ _ _ _ c.requires.ready c.requires.tuned c.requires.size c.requires.short asked).backed

pub returns-in_err-close-clause-grows : goal.returns-in_err-close-clause-grows
returns-in_err-close-clause-grows g t c =
    let up : c.args.turns ≡ suc (c.args.turns - 1) = omega arith in
    let granted : c.in_ok-ask_break.field-0 ≡ true = search rules in
    let asked = rw (c.growth_for-growth.ensures, granted) at c.in_ok-ask_break.ensures.asked in
    let closes = rw (c.take_break-rest.ensures.rest, c.take_break-rest.ensures.arena, c.ask_break.ensures.arena, c.growth_for-growth.ensures) at c.in_err-close.ensures.closes in
    at_turns _ c.args.t.now c.args.nb c.args.turns (c.args.turns - 1) _ _ _ c.from_residual-in_err-close.result up
    (close_short _ c.args.t.now c.args.nb (c.args.turns - 1) _ _ _ _ _ _ _ _ _ _ _ _ c.in_err-close.field-0.0 c.from_residual-in_err-close.result c.from_residual-in_err-close.ensures.0 c.requires.ready c.requires.tuned c.requires.size c.requires.short asked closes)

pub returns-then-has_top_for-clause-grows : goal.returns-then-has_top_for-clause-grows
returns-then-has_top_for-clause-grows g t c =
    let up : c.args.turns ≡ suc (c.args.turns - 1) = omega arith in
    let granted : c.in_ok-ask_break.field-0 ≡ true = search rules in
    let asked = rw (c.growth_for-growth.ensures, granted) at c.in_ok-ask_break.ensures.asked in
    let closes = rw (c.take_break-rest.ensures.rest, c.take_break-rest.ensures.arena, c.ask_break.ensures.arena, c.growth_for-growth.ensures) at c.in_ok-close.ensures.closes in
    at_turns _ c.args.t.now c.args.nb c.args.turns (c.args.turns - 1) _ _ _ _ up
    (closed_enough _ c.args.t.now c.args.nb (c.args.turns - 1) _ _ _ _ _ _ _ _ _ _ _ _ c.requires.ready c.requires.tuned c.requires.size c.requires.short asked closes (sym c.has_top_for.ensures ∙ c.if-has_top_for.true))

pub grow_main-requires-clause-ready : goal.grow_main-requires-clause-ready
grow_main-requires-clause-ready g t c = λ k l.
    let granted : c.in_ok-ask_break.field-0 ≡ true = search rules in
    let asked = rw (c.growth_for-growth.ensures, granted) at c.in_ok-ask_break.ensures.asked in
    let closes = rw (c.take_break-rest.ensures.rest, c.take_break-rest.ensures.arena, c.ask_break.ensures.arena, c.growth_for-growth.ensures) at c.in_ok-close.ensures.closes in
    again_ready _ c.args.t.now c.args.nb 0 _ _ _ _ _ _ _ _ _ _ _ _ c.requires.ready c.requires.tuned c.requires.size c.requires.short asked closes

pub returns-clause-grows : goal.returns-clause-grows
returns-clause-grows g t c =
    let up : c.args.turns ≡ suc (c.args.turns - 1) = omega arith in
    let granted : c.in_ok-ask_break.field-0 ≡ true = search rules in
    let asked = rw (c.growth_for-growth.ensures, granted) at c.in_ok-ask_break.ensures.asked in
    let closes = rw (c.take_break-rest.ensures.rest, c.take_break-rest.ensures.arena, c.ask_break.ensures.arena, c.growth_for-growth.ensures) at c.in_ok-close.ensures.closes in
    at_turns _ c.args.t.now c.args.nb c.args.turns (c.args.turns - 1) _ _ _ c.grow_main.result up
    (closed_again _ c.args.t.now c.args.nb (c.args.turns - 1) _ _ _ _ _ _ _ _ _ _ _ _ _ c.grow_main.result c.requires.ready c.requires.tuned c.requires.size c.requires.short asked closes (sym c.has_top_for.ensures ∙ c.if-has_top_for.false) c.grow_main.ensures.grows)
