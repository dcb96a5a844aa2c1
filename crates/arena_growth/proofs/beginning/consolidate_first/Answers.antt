use Rattle.std.proofs.Common.{◌≡◌, true, false, rules}
use Rattle.chunk_tags.specs.Sizes.{is_small_size}
use Rattle.arena_growth.proofs.Looks.{sweep_small, sweep_short, sweep_none, sweep_all}
use Rattle.arena_growth.proofs.beginning.consolidate_first.Goals as goal

pub returns-then-is_small-clause-sweeps : goal.returns-then-is_small-clause-sweeps
returns-then-is_small-clause-sweeps g c =
    let small : is_small_size c.args.nb ≡ true = search rules in
    sweep_small g.P.FastPort.fast c.args.nb _ c.requires.sound small

pub returns-in_err-ask_flag-clause-sweeps : goal.returns-in_err-ask_flag-clause-sweeps
returns-in_err-ask_flag-clause-sweeps g c =
    let large : is_small_size c.args.nb ≡ false = search rules in
    rw (c.in_err-ask_flag.ensures.port, c.in_err-ask_flag.ensures.short)
    (sweep_short g.P.FastPort.fast c.args.nb _ c.from_residual.result c.from_residual.ensures.0 c.requires.sound large)

pub returns-then-branch-clause-sweeps : goal.returns-then-branch-clause-sweeps
returns-then-branch-clause-sweeps g c =
    let large : is_small_size c.args.nb ≡ false = search rules in
    let did = rw c.if-branch.true at c.in_ok-ask_flag.ensures.flag in
    let emptied = rw (c.in_ok-ask_flag.ensures.told, c.if-branch.true) at c.consolidate.ensures.empties in
    sweep_all g.P.FastPort.fast c.args.nb _ _ _ _ _ _ _ c.consolidate.result c.requires.sound large did emptied

pub returns-clause-sweeps : goal.returns-clause-sweeps
returns-clause-sweeps g c =
    let large : is_small_size c.args.nb ≡ false = search rules in
    let did = rw c.if-branch.false at c.in_ok-ask_flag.ensures.flag in
    rw (c.in_ok-ask_flag.ensures.told, c.if-branch.false)
    (sweep_none g.P.FastPort.fast c.args.nb _ _ _ _ c.requires.sound large did)
