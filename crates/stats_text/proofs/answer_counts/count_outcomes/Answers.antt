use Rattle.std.proofs.Common.{◌-◌, ◌^◌, ◌<◌, length, take, sym, ◌∙◌, arith}
use Rattle.std.proofs.lemmas.List.{length-take-le, take_more}
use Rattle.stats_text.proofs.CountLaws.{counts_push, counts_room}
use Rattle.stats_text.proofs.answer_counts.count_outcomes.Goals as goal

pub add-requires : goal.add-requires
add-requires c =
    let before = take c.loop-said.said-index c.args.outcomes.now in
    let few : length before < 2 ^ 64 - 1 = omega (arith, length-take-le c.loop-said.said-index c.args.outcomes.now (omega arith)) in
    rw c.loop-said.invariant (counts_room before few)

pub loop-said-preserved : goal.loop-said-preserved
loop-said-preserved c =
    let before = take c.loop-said.said-index c.args.outcomes.now in
    let more = take_more c.args.outcomes.now c.loop-said.said-index c.said-item.result c.loop-said-test.true in
    c.add.ensures ∙ rw (c.loop-said.invariant, more, ← c.said-item.is) (sym (counts_push before c.said-item.result))
