use Rattle.std.proofs.Common.{arith}
use Rattle.std.proofs.lemmas.Bool.{eqb-false, eqb-true}
use Rattle.ordinary_bins.proofs.CodeLaws.{coded_near, coded_far, coded_none, open_has_room}
use Rattle.ordinary_bins.proofs.nodes.Nodes.has_codes.Goals as goal
use Rattle.ordinary_bins.proofs.nodes.Nodes.has_codes.Goals.{else-self-word-via-then-self-word+else-end-self-le-FAR, else-self-word-via-else-self-word}

pub returns-then-end-le-NEAR_WORDS-clause-room : goal.returns-then-end-le-NEAR_WORDS-clause-room
returns-then-end-le-NEAR_WORDS-clause-room c = λ yes. coded_near _ _ _ c.args.at c.args.len c.args.self.now.coded (omega arith)

pub returns-then-end-self-le-FAR-clause-room : goal.returns-then-end-self-le-FAR-clause-room
returns-then-end-self-le-FAR-clause-room c = λ yes. coded_far _ _ _ c.args.at c.args.len c.args.self.now.coded (omega arith) (omega arith)

pub returns-then-len-eq0-clause-room : goal.returns-then-len-eq0-clause-room
returns-then-len-eq0-clause-room c = λ start. coded_none _ _ _ c.args.at c.args.len c.args.self.now.coded c.if-len-eq0.true (eqb-true _ _ start)

pub returns-then-len-eq0-clause-none : goal.returns-then-len-eq0-clause-none
returns-then-len-eq0-clause-none c = λ later same.
    let room = open_has_room _ _ _ c.args.at c.args.len c.args.self.now.coded c.requires same (λ z. eqb-false _ _ later (omega (arith, z))) (omega arith) in
    elim c.else-self-word.branch [
      | else-self-word-via-then-self-word+else-end-self-le-FAR w ↦ omega (arith, room.1, w.if-end-self-le-FAR.false)
      | else-self-word-via-else-self-word w ↦ omega (arith, room.0, w.if-self-word.false)
    ]

pub returns-else-len-eq0-clause-none : goal.returns-else-len-eq0-clause-none
returns-else-len-eq0-clause-none c = λ some same.
    let room = open_has_room _ _ _ c.args.at c.args.len c.args.self.now.coded c.requires same (λ z. eqb-false _ _ some (omega (arith, z, c.requires.whole))) (omega arith) in
    elim c.else-self-word.branch [
      | else-self-word-via-then-self-word+else-end-self-le-FAR w ↦ omega (arith, room.1, w.if-end-self-le-FAR.false)
      | else-self-word-via-else-self-word w ↦ omega (arith, room.0, w.if-self-word.false)
    ]
