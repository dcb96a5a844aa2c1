use Rattle.std.proofs.Common.{◌≡◌, ◌≤◌, ◌-◌, ◌∙◌, ap, length, get_or, arith}
use Rattle.std.specs.Int.{div_ceil}
use Rattle.std.proofs.lemmas.List.{length-map}
use Rattle.part_words.specs.Parts.{extent_of}
use Rattle.part_words.proofs.Passing.{passed_none, passed_part, passed_all, is_next, length_read, rounded_up}
use Rattle.part_words.proofs.words.Words.next_open.Goals as goal
use Rattle.part_words.proofs.words.Words.next_open.Goals.{After-len}

pub loop-part-init : goal.loop-part-init
loop-part-init g c =
    let n = rounded_up (c.args.at - c.self.inside.base) c.div_ceil-word.result (c.div_ceil-word.ensures ∙ ap (λ x. div_ceil x 16) c.saturating_sub.ensures) in
    rw (← c.self.view_is) (passed_none _ c.args.at c.div_ceil-word.result c.self.invariant.width n.0 n.1)

count : (g : _) → (c : After-len g) → get_or (extent_of c.args.self.now).words c.loop-part.part 0 ≡ c.len.result
count g c =
    let e = length_read c.self.inside.parts.items c.loop-part.part c.index-words.result.now c.index-words.ensures (omega (arith, c.loop-part-test.true, c.len-part-end.ensures, c.self.inside.parts.ok.0)) in
    rw (← c.self.view_is) (omega (arith, e, c.len.ensures))

pub loop-part-preserved : goal.loop-part-preserved
loop-part-preserved g c =
    passed_part _ _ _ _ c.loop-part.invariant (omega (arith, count g (goal.at.loop-part-preserved g c).After-len, c.if-place-len.false))

pub returns-then-place-len : goal.returns-then-place-len
returns-then-place-len g c =
    let n = is_next _ _ _ _ c.address.result c.loop-part.invariant (omega (arith, count g (goal.at.returns-then-place-len g c).After-len, c.if-place-len.true)) (rw (← c.self.view_is) c.address.ensures) in
    record { word = n.word; first = n.first; none = n.none }

pub returns-clause-none : goal.returns-clause-none
returns-clause-none g c =
    let past : length (extent_of c.args.self.now).words ≤ c.loop-part.part = rw (← c.self.view_is) (omega (arith, length-map c.self.inside.parts.items length, c.loop-part-test.false, c.len-part-end.ensures, c.self.inside.parts.ok.0)) in
    λ b from lt. passed_all _ _ _ _ c.loop-part.invariant past b from
