use Rattle.std.proofs.Common.{◌≡◌, ◌-◌, suc, true, false, arith, rules}
use Rattle.chunk_tags.specs.Tunables.{serial_values}
use Rattle.arena_core.proofs.Rounds.{round_short, round_found, round_last, look_ready, again_as, flag_short, flag_ready, flag_allows, round_unflagged, consolidate_short, consolidate_ready, empties_allow, round_again}
use Rattle.arena_core.proofs.searching.+go_round.Goals as goal

pub returns-in_err-c-clause-finds : goal.returns-in_err-c-clause-finds
returns-in_err-c-clause-finds g t c = round_short _ c.args.t.now c.args.nb c.args.again _ _ _ _ c.in_err-c.field-0.0 c.from_residual.result c.from_residual.ensures.0 c.in_err-c.ensures.steps

pub returns-in-Taken-clause-finds : goal.returns-in-Taken-clause-finds
returns-in-Taken-clause-finds g t c = round_found _ c.args.t.now c.args.nb c.args.again _ _ _ _ c.in-Taken.c (rw c.in-Taken.is at c.in_ok-c.ensures.steps)

pub ask_system-requires-clause-ready : goal.ask_system-requires-clause-ready
ask_system-requires-clause-ready g t c = λ k l. look_ready _ c.args.t.now c.args.nb _ _ _ _ c.requires.ready (rw c.in-Onward.is at c.in_ok-c.ensures.steps)

pub returns-then-again-eq0-clause-finds : goal.returns-then-again-eq0-clause-finds
returns-then-again-eq0-clause-finds g t c = round_last _ c.args.t.now c.args.nb c.args.again _ _ _ _ _ c.ask_system.result (omega arith) (rw c.in-Onward.is at c.in_ok-c.ensures.steps) c.ask_system.ensures.finds

pub returns-in_err-ask_flag-in-Onward-clause-finds : goal.returns-in_err-ask_flag-in-Onward-clause-finds
returns-in_err-ask_flag-in-Onward-clause-finds g t c =
    let up : c.args.again ≡ suc (c.args.again - 1) = omega arith in
    rw (c.in_err-ask_flag-in-Onward.ensures.port, c.in_err-ask_flag-in-Onward.ensures.short)
    (again_as _ c.args.t.now c.args.nb c.args.again (c.args.again - 1) _ _ _ c.from_residual-in_err-ask_flag-in-Onward.result up
    (flag_short _ c.args.t.now c.args.nb (c.args.again - 1) _ _ _ _ c.from_residual-in_err-ask_flag-in-Onward.result c.from_residual-in_err-ask_flag-in-Onward.ensures.0 (rw c.in-Onward.is at c.in_ok-c.ensures.steps)))

pub ask_system-requires-then-not-branch-clause-ready : goal.ask_system-requires-then-not-branch-clause-ready
ask_system-requires-then-not-branch-clause-ready g t c = λ k l.
    rw c.in_ok-ask_flag-in-Onward.ensures.told
    (flag_ready _ c.args.t.now c.args.nb 0 _ _ _ _ _ c.in_ok-ask_flag-in-Onward.field-0 c.requires.ready (rw c.in-Onward.is at c.in_ok-c.ensures.steps) c.in_ok-ask_flag-in-Onward.ensures.flag)

pub ask_system-requires-then-not-branch-clause-allows : goal.ask_system-requires-then-not-branch-clause-allows
ask_system-requires-then-not-branch-clause-allows g t c = λ k l. flag_allows c.requires.apart _ _ _ c.in_ok-ask_flag-in-Onward.field-0 c.in_ok-ask_flag-in-Onward.ensures.flag c.requires.allows

pub returns-then-not-branch-clause-finds : goal.returns-then-not-branch-clause-finds
returns-then-not-branch-clause-finds g t c =
    let up : c.args.again ≡ suc (c.args.again - 1) = omega arith in
    let unset : c.in_ok-ask_flag-in-Onward.field-0 ≡ false = search rules in
    let did = rw unset at c.in_ok-ask_flag-in-Onward.ensures.flag in
    let asked = rw (c.in_ok-ask_flag-in-Onward.ensures.told, unset) at c.ask_system-then-not-branch.ensures.finds in
    again_as _ c.args.t.now c.args.nb c.args.again (c.args.again - 1) _ _ _ c.ask_system-then-not-branch.result up
    (round_unflagged _ c.args.t.now c.args.nb (c.args.again - 1) _ _ _ _ _ _ c.ask_system-then-not-branch.result (rw c.in-Onward.is at c.in_ok-c.ensures.steps) did asked)

pub consolidate-requires : goal.consolidate-requires
consolidate-requires g t c =
    (flag_ready _ c.args.t.now c.args.nb 0 _ _ _ _ _ c.in_ok-ask_flag-in-Onward.field-0 c.requires.ready (rw c.in-Onward.is at c.in_ok-c.ensures.steps) c.in_ok-ask_flag-in-Onward.ensures.flag).backed

pub returns-in_err-consolidate-in-Onward-clause-finds : goal.returns-in_err-consolidate-in-Onward-clause-finds
returns-in_err-consolidate-in-Onward-clause-finds g t c =
    let up : c.args.again ≡ suc (c.args.again - 1) = omega arith in
    let set : c.in_ok-ask_flag-in-Onward.field-0 ≡ true = search rules in
    let did = rw set at c.in_ok-ask_flag-in-Onward.ensures.flag in
    let emptied = rw (c.in_ok-ask_flag-in-Onward.ensures.told, set) at c.in_err-consolidate-in-Onward.ensures.empties in
    again_as _ c.args.t.now c.args.nb c.args.again (c.args.again - 1) _ _ _ c.from_residual-in_err-consolidate-in-Onward.result up
    (consolidate_short _ c.args.t.now c.args.nb (c.args.again - 1) _ _ _ _ _ _ _ _ c.in_err-consolidate-in-Onward.field-0.0 c.from_residual-in_err-consolidate-in-Onward.result c.from_residual-in_err-consolidate-in-Onward.ensures.0 (rw c.in-Onward.is at c.in_ok-c.ensures.steps) did emptied)

pub go_round-requires-clause-ready : goal.go_round-requires-clause-ready
go_round-requires-clause-ready g t c = λ k l.
    let set : c.in_ok-ask_flag-in-Onward.field-0 ≡ true = search rules in
    let did = rw set at c.in_ok-ask_flag-in-Onward.ensures.flag in
    let emptied = rw (c.in_ok-ask_flag-in-Onward.ensures.told, set) at c.in_ok-consolidate-in-Onward.ensures.empties in
    consolidate_ready _ c.args.t.now c.args.nb 0 _ _ _ _ _ _ _ _ c.requires.ready (rw c.in-Onward.is at c.in_ok-c.ensures.steps) did emptied

pub go_round-requires-clause-allows : goal.go_round-requires-clause-allows
go_round-requires-clause-allows g t c = λ k l.
    empties_allow serial_values c.requires.apart _ _ _ _ _ _ _ c.in_ok-consolidate-in-Onward.ensures.empties
    (flag_allows c.requires.apart _ _ _ c.in_ok-ask_flag-in-Onward.field-0 c.in_ok-ask_flag-in-Onward.ensures.flag c.requires.allows)

pub returns-in_ok-consolidate-in-Onward-clause-finds : goal.returns-in_ok-consolidate-in-Onward-clause-finds
returns-in_ok-consolidate-in-Onward-clause-finds g t c =
    let up : c.args.again ≡ suc (c.args.again - 1) = omega arith in
    let set : c.in_ok-ask_flag-in-Onward.field-0 ≡ true = search rules in
    let did = rw set at c.in_ok-ask_flag-in-Onward.ensures.flag in
    let emptied = rw (c.in_ok-ask_flag-in-Onward.ensures.told, set) at c.in_ok-consolidate-in-Onward.ensures.empties in
    again_as _ c.args.t.now c.args.nb c.args.again (c.args.again - 1) _ _ _ c.go_round.result up
    (round_again _ c.args.t.now c.args.nb (c.args.again - 1) _ _ _ _ _ _ _ _ _ c.go_round.result (rw c.in-Onward.is at c.in_ok-c.ensures.steps) did emptied c.go_round.ensures.finds)
