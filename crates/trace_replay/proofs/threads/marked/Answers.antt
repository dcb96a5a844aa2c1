use Rattle.std.proofs.Common.{◌<◌, true, length, refl, subst, ◌∙◌, arith}
use Rattle.std.proofs.lemmas.List.{length-set}
use Rattle.std.proofs.lemmas.Option.{slice_get_within, get_or_from_slice_get}
use Rattle.trace_replay.specs.Views.{IsThread}
use Rattle.trace_replay.proofs.LineThreads.{no_marks, marks_next}
use Rattle.trace_replay.proofs.threads.marked.Goals as goal

pub loop-index-init : goal.loop-index-init
loop-index-init c = (refl, no_marks 64)

pub loop-index-preserved : goal.loop-index-preserved
loop-index-preserved c =
    let lines = c.args.lines.now in
    let i = c.loop-index.index in
    let line = c.get-line.result in
    let at = c.get-line.ensures in
    let small : IsThread line = subst IsThread (get_or_from_slice_get lines i line line at) (c.requires i line (slice_get_within lines i line at)) in
    let within : c.from.result < length c.loop-index.marks = omega (arith, c.loop-index.invariant.0, c.from.ensures, small) in (
      length-set c.loop-index.marks c.from.result true ∙ c.loop-index.invariant.0,
      marks_next c.loop-index.marks lines i line c.from.result c.from.ensures within at c.loop-index.invariant.1,
    )
