use Rattle.std.proofs.Common.{◌≡◌, ◌+◌, ◌-◌, sym, ◌∙◌, arith, rules}
use Rattle.std.proofs.lemmas.Grind.{common_steps}
use Rattle.trace_text.specs.Grammar.{place_after}
use Rattle.trace_maker.specs.Generator.{lines_made}
use Rattle.trace_maker.proofs.TraceLaws.{lines_made_allowed, lines_made_posted}
use Rattle.trace_maker.proofs.Loop.{one_line_more, no_line_more}
use Rattle.trace_maker.proofs.making.generate.Goals as goal

pub loop-done-init : goal.loop-done-init
unfolding lines_made
loop-done-init c = record {
  count = rw c.in_ok-lines.ensures (omega arith);
  held = rw c.in_ok-lines.ensures c.in_ok-held.ensures;
  lines = let all : c.args.n - 0 ≡ c.args.n = omega arith in rw (c.in_ok-lines.ensures, c.in_ok-maker.ensures, all) (search rules);
}

pub loop-done-preserved : goal.loop-done-preserved
loop-done-preserved c =
    let place : c.from.result + 2 ≡ place_after c.loop-done.lines = omega (arith, c.from.ensures, c.loop-done.invariant.count) in
    let made = c.in_ok-line.ensures.made c.loop-done.lines c.loop-done.invariant.held place in
    record {
      count = grind (arith, common_steps);
      held = rw c.in_ok-push.ensures.ok made.1;
      lines =
          rw c.in_ok-push.ensures.ok
          (sym (one_line_more c.loop-done.lines c.loop-done.maker c.next_line.new.maker c.in_ok-line.line (c.args.n - c.loop-done.done) (c.args.n - (c.loop-done.done + 1)) (omega (arith, c.loop-done-test.true)) made.0) ∙ c.loop-done.invariant.lines);
    }

pub returns-clause-exact : goal.returns-clause-exact
returns-clause-exact c = sym (no_line_more c.loop-done.lines c.loop-done.maker (c.args.n - c.loop-done.done) (omega arith)) ∙ c.loop-done.invariant.lines

pub returns-clause-allowed : goal.returns-clause-allowed
returns-clause-allowed c =
    let made : c.loop-done.lines ≡ lines_made c.args.seed c.args.n = sym (no_line_more c.loop-done.lines c.loop-done.maker (c.args.n - c.loop-done.done) (omega arith)) ∙ c.loop-done.invariant.lines in
    rw made (lines_made_allowed c.args.seed c.args.n)

pub returns-clause-posted : goal.returns-clause-posted
returns-clause-posted c =
    let made : c.loop-done.lines ≡ lines_made c.args.seed c.args.n = sym (no_line_more c.loop-done.lines c.loop-done.maker (c.args.n - c.loop-done.done) (omega arith)) ∙ c.loop-done.invariant.lines in
    rw made (lines_made_posted c.args.seed c.args.n)
