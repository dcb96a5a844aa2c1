use Rattle.std.proofs.Common.{◌≡◌, false, rules}
use Rattle.arena_growth.proofs.FirstHeaps.{first_here, first_short, first_opens, first_refused}
use Rattle.arena_growth.proofs.opening.open_for.Goals as goal

pub returns-in_err-ground : goal.returns-in_err-ground
returns-in_err-ground g c = first_here _ _ c.args.t.now c.args.number c.args.need _ _ c.from_residual.result c.from_residual.ensures.0

pub returns-in_err-ask_first : goal.returns-in_err-ask_first
returns-in_err-ask_first g c =
    let asked = rw c.first_length-len.ensures at c.in_err-ask_first.ensures in
    first_short _ _ c.args.t.now c.args.number c.args.need _ _ _ _ c.in_err-ask_first.field-0.0 c.from_residual-in_err-ask_first.result c.from_residual-in_err-ask_first.ensures.0 asked

pub returns-then-branch : goal.returns-then-branch
returns-then-branch g c =
    let asked = rw (c.first_length-len.ensures, c.if-branch.true) at c.in_ok-ask_first.ensures in
    let some = rw c.first_length-len.ensures at c.in_ok-ground.ensures.some in
    let is = rw c.first_length-len.ensures at c.in_ok-ground.ensures.arena in
    first_opens _ _ c.args.t.now c.args.number c.args.need _ _ _ _ c.in_ok-ground.ground c.requires.windows asked some is c.in_ok-ground.ensures.sound

pub returns-else-branch : goal.returns-else-branch
returns-else-branch g c =
    let asked = rw (c.first_length-len.ensures, c.if-branch.false) at c.in_ok-ask_first.ensures in
    first_refused _ _ c.args.t.now c.args.number c.args.need _ _ _ _ c.requires.windows asked
