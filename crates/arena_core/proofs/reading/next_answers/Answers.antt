use Rattle.std.proofs.Common.{◌≡◌, take, drop, refl, ap, ◌∙◌, add-one, arith}
use Rattle.arena_core.proofs.KeptLaws.{take-one, drop-one}
use Rattle.arena_core.proofs.reading.next_answers.Goals as goal

pub loop-init : goal.loop-init
loop-init c = record { said = c.in_ok-said.ensures.items; answers = refl }

pub loop-preserved : goal.loop-preserved
loop-preserved c = record {
  said = rw (add-one, c.in_ok-tell_next.ensures.next, c.loop.invariant.said, c.loop.invariant.answers) (take-one _ c.loop.counter);
  answers = rw (add-one, c.in_ok-tell_next.ensures.behind, c.loop.invariant.answers) (drop-one _ c.loop.counter);
}

pub returns-clause-next : goal.returns-clause-next
returns-clause-next c =
    let done : c.loop.counter ≡ c.args.count = omega (arith, c.loop-test.false, c.loop.auto.counter-end) in
    c.loop.invariant.said ∙ ap (λ n. take n c.args.answers.now) done

pub returns-clause-behind : goal.returns-clause-behind
returns-clause-behind c =
    let done : c.loop.counter ≡ c.args.count = omega (arith, c.loop-test.false, c.loop.auto.counter-end) in
    c.loop.invariant.answers ∙ ap (λ n. drop n c.args.answers.now) done
