use Rattle.std.proofs.Common.{◌∙◌, ap, arith}
use Rattle.std.proofs.lemmas.Grind.{common_steps}
use Rattle.std.proofs.lemmas.List.{take_all}
use Rattle.trace_text.specs.Grammar.{reading_of}
use Rattle.trace_text.specs.Spelling.{spelling}
use Rattle.trace_text.proofs.NextLines.{take_next}
use Rattle.trace_text.proofs.RoundTrip.{spelling_again}
use Rattle.trace_text.proofs.write.print_trace.Goals as goal

pub loop-index-preserved : goal.loop-index-preserved
loop-index-preserved c =
    rw (take_next c.args.t.now.lines c.loop-index.index c.get.result c.get.ensures) (grind (arith, common_steps))

pub returns-clause-again : goal.returns-clause-again
returns-clause-again c = λ fit.
    let lines = c.args.t.now.lines in
    ap reading_of (c.loop-index.invariant ∙ ap (spelling c.args.t.now.version) (take_all c.loop-index.index lines (omega arith))) ∙ spelling_again c.args.t.now.version lines fit
