use Rattle.std.proofs.Common.{refl}
use Rattle.arena_core.proofs.Opens.{opens_as, opens_none, opens_not, on_err, replay_of}
use Rattle.arena_core.proofs.arena.Arena.open.Goals as goal

pub returns-in_err-journal-clause-short : goal.returns-in_err-journal-clause-short
returns-in_err-journal-clause-short g c = on_err c.from_residual.result (opens_not _ c.args.t.now c.args.number c.args.bytes _)

pub returns-in_err-said-clause-short : goal.returns-in_err-said-clause-short
returns-in_err-said-clause-short g c = on_err c.from_residual-in_err-said.result (opens_not _ c.args.t.now c.args.number c.args.bytes _)

pub returns-in-Some-clause-replay : goal.returns-in-Some-clause-replay
returns-in-Some-clause-replay g c =
    let opens = rw (c.in-Some.is, c.in_ok-said.ensures.empty) at c.in_ok-ground.ensures in
    let is = rw (c.in_ok-said.ensures.items, c.in_ok-journal.ensures) at c.append.ensures in
    replay_of g.M.Moves.plain _ c.args.t.now c.args.who c.args.number c.args.bytes c.in-Some.ground.value _ _ _ c.requires.other c.requires.bytes (opens_as g.M.Moves.plain (λ b. g.M.Moves.plain b.value) _ c.args.t.now c.args.who c.args.number c.args.bytes c.in-Some.ground.value c.in-Some.ground _ _ _ _ refl opens is)

pub returns-in-None-clause-refused : goal.returns-in-None-clause-refused
returns-in-None-clause-refused g c = λ none. opens_none _ _ c.args.t.now c.args.number c.args.bytes _ _ _ (rw (c.in-None.is, c.in_ok-said.ensures.empty) at c.in_ok-ground.ensures)

pub returns-in-Some-clause-opened : goal.returns-in-Some-clause-opened
returns-in-Some-clause-opened g c =
    let opens = rw (c.in-Some.is, c.in_ok-said.ensures.empty) at c.in_ok-ground.ensures in
    let is = rw (c.in_ok-said.ensures.items, c.in_ok-journal.ensures) at c.append.ensures in
    opens_as g.M.Moves.plain (λ b. g.M.Moves.plain b.value) _ c.args.t.now c.args.who c.args.number c.args.bytes c.in-Some.ground.value c.in-Some.ground _ _ _ _ refl opens is
