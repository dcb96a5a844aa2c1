use Rattle.std.proofs.Common.{◌+◌, sym, ◌∙◌, arith}
use Rattle.std.proofs.lemmas.Bool.Decides.{nat_tests}
use Rattle.trace_text.proofs.Before.{Knows-push}
use Rattle.trace_text.proofs.Loop.{lines_end, lines_cut, lines_more, lines_stop}
use Rattle.trace_text.proofs.read.read_body.Goals as goal

pub returns-in_default : goal.returns-in_default
returns-in_default c =
    let before = c.loop-rest.lines in
    sym c.loop-rest.invariant.so_far ∙ lines_cut c.args.version before (c.len.result + 2) c.loop-rest.rest.now (omega arith) (grind (arith, nat_tests)) c.in_default.ensures.parts

pub returns-in-Err : goal.returns-in-Err
returns-in-Err c =
    let before = c.loop-rest.lines in
    let found = c.in-Err.ensures.exact before c.loop-rest.invariant.known (omega arith) in
    sym c.loop-rest.invariant.so_far ∙ lines_stop c.args.version before (c.len.result + 2) c.loop-rest.rest.now c.in-Some.line.now c.in-Some.behind.now c.in-Err.why (omega arith) c.in-Some.ensures.parts (sym found)

pub loop-rest-preserved : goal.loop-rest-preserved
loop-rest-preserved c =
    let before = c.loop-rest.lines in
    let found = c.in-Ok.ensures.exact before c.loop-rest.invariant.known (omega arith) in
    rw c.in_ok-push-in-Ok.ensures.ok (record {
      known = Knows-push c.loop-rest.seen c.add.new.self before c.in-Ok.line c.in_ok-add-in-Ok.ensures c.loop-rest.invariant.known;
      so_far = sym (lines_more c.args.version before c.loop-rest.rest.now c.in-Some.line.now c.in-Some.behind.now c.in-Ok.line c.in-Some.ensures.parts (sym found)) ∙ c.loop-rest.invariant.so_far;
    })

pub returns : goal.returns
returns c = sym c.loop-rest.invariant.so_far ∙ lines_end c.args.version c.loop-rest.lines c.loop-rest.rest.now (grind (arith, nat_tests))
