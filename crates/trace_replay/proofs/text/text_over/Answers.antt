use Rattle.std.proofs.Common.{◌++◌, ap, ◌∙◌}
use Rattle.std.proofs.lemmas.Result.{IfOk-weaker}
use Rattle.trace_replay.proofs.FirstThreads.{first_tells}
use Rattle.trace_replay.proofs.LineThreads.{allowed_threads}
use Rattle.trace_replay.proofs.Reports.{on_ok, text_served, tiles_given}
use Rattle.trace_replay.proofs.text.text_over.Goals as goal

pub line_threads-requires : goal.line_threads-requires
line_threads-requires g c = allowed_threads _ c.requires.allowed

pub returns-clause-told : goal.returns-clause-told
returns-clause-told g c tell =
    let process = c.in_ok-process.process in
    let tells = first_tells g.K.Kernel.port c.args.asked.now.tunables c.args.kernels.items process.threads.items process.serial c.in_ok-process.ensures.world tell in
    IfOk-weaker c.with_end.result _ _
    (λ all wrote.
    text_served g.K.Kernel.port c.args.asked.now.summary c.args.asked.now.trim c.args.asked.now.tunables _ c.args.lines c.args.kernels.items _ _ _ c.replay.new.sheet _ _ c.in_ok-text.text.items c.in_ok-ending.ending.trim.items all.items c.in_ok-ending.ending.shown c.in_ok-process.ensures.tunables
    c.in_ok-process.ensures.world c.in_ok-sheet.ensures.blank (c.in_ok-replay.ensures.told tells) (c.as_slice-2.ensures.value ∙ c.in_ok-numbers.ensures.numbers) c.in_ok-ending.ensures.shown c.in_ok-ending.ensures.trim c.notes-notes.ensures c.in_ok-text.ensures
    (wrote ∙ ap (λ x. c.in_ok-text.text.items ++ x) c.as_slice-3.ensures.value))
    c.with_end.ensures

pub returns-clause-tiled : goal.returns-clause-tiled
returns-clause-tiled g c tell =
    let process = c.in_ok-process.process in
    let tells = first_tells g.K.Kernel.port c.args.asked.now.tunables c.args.kernels.items process.threads.items process.serial c.in_ok-process.ensures.world tell in
    on_ok c.with_end.result (tiles_given _ _ _ _ _ _ c.in_ok-process.ensures.tunables c.in_ok-process.ensures.world (c.in_ok-replay.ensures.tiled tells))
