use Rattle.std.proofs.Common.{◌≡◌, ◌++◌, ◌+◌, ◌∙◌, sym, ℕ, List, length, arith, length-append}
use Rattle.arena_choice.proofs.NumberLaws.{lowest_step, lowest_here, lowest_end, lowest_by_count}
use Rattle.arena_choice.proofs.row.lowest_unused.Goals as goal

both : (n m : ℕ) (xs ys : List ℕ) → n ≡ length xs → m ≡ length ys → n + m ≡ length (xs ++ ys)
both n m xs ys e f = omega (arith, e, f, length-append xs ys)

pub returns-then-not-has_either : goal.returns-then-not-has_either
returns-then-not-has_either c =
    sym (lowest_here _ _ _ c.loop-a-test.true (sym c.has_either.ensures ∙ c.if-not-has_either.true)) ∙ c.loop-a.invariant ∙ lowest_by_count _ _ (both _ _ _ _ c.len.ensures c.len-2.ensures)

pub loop-a-preserved : goal.loop-a-preserved
loop-a-preserved c =
    sym (lowest_step _ _ _ c.loop-a-test.true (sym c.has_either.ensures ∙ c.if-not-has_either.false)) ∙ c.loop-a.invariant

pub returns : goal.returns
returns c =
    let n : ℕ = c.len.result + c.len-2.result in
    let at_end : c.loop-a.a ≡ n = omega arith in
    sym at_end ∙ sym (lowest_end n c.loop-a.a (c.args.list.now.numbers ++ c.args.kept.now.numbers) c.loop-a-test.false) ∙ c.loop-a.invariant ∙ lowest_by_count _ _ (both _ _ _ _ c.len.ensures c.len-2.ensures)
