use Rattle.std.proofs.Common.{refl, subst, ◌∙◌, ◌+◌, take, drop, arith}
use Rattle.std.proofs.lemmas.List.{take_all}
use Rattle.trace_replay.specs.Processes.{world_of}
use Rattle.trace_replay.proofs.LinesAfter.{holds_next, may_run, fits_at}
use Rattle.trace_replay.proofs.ReplayLoop.{SoFar, nothing_yet, awaits_next, can_note_next, goes_on, finished, tiles_first, tiles_next, tiles_all}
use Rattle.trace_replay.proofs.Results.{on_err}
use Rattle.trace_replay.proofs.replay.replay.Goals as goal

pub loop-index-init : goal.loop-index-init
loop-index-init g c = record {
  awaits = c.requires.awaits;
  holds = c.requires.holds;
  settled = c.requires.settled;
  tunables = refl;
  told = λ h. (h, nothing_yet _ _ _ _ c.requires.fit, tiles_first _ _ c.args.lines.now _ c.args.sheet.now c.laws.ensures c.requires.fit);
}

pub replay_line-requires-clause-room : goal.replay_line-requires-clause-room
replay_line-requires-clause-room g c = λ k l.
    can_note_next _ c.args.lines.now c.loop-index.index _ c.get-line.ensures c.loop-index.invariant.awaits

pub replay_line-requires-clause-may : goal.replay_line-requires-clause-may
replay_line-requires-clause-may g c = λ k l.
    may_run _ _ _ _ (fits_at _ c.args.lines.now c.loop-index.index _ c.requires.allowed.allowed c.get-line.ensures) c.loop-index.invariant.holds

pub loop-index-preserved : goal.loop-index-preserved
loop-index-preserved g c =
    let i = c.loop-index.index in
    let rest = drop (i + 1) c.args.lines.now in
    let noted = c.in_ok-replay_line.ensures.noted rest (awaits_next _ _ i _ c.get-line.ensures c.loop-index.invariant.awaits) in
    record {
      awaits = noted.awaits;
      holds = holds_next _ i _ _ _ _ c.get-line.ensures c.loop-index.invariant.holds c.in_ok-replay_line.ensures.blocks;
      settled = c.in_ok-replay_line.ensures.settled;
      tunables = c.replay_line.ensures.tunables ∙ c.loop-index.invariant.tunables;
      told = λ h.
          let so_far = c.loop-index.invariant.told h in
          let here = goes_on _ _ _ _ i _ _ _ _ _ _ _ _ rest c.loop-index.invariant.tunables c.get-line.ensures so_far.1 (c.in_ok-replay_line.ensures.told so_far.0) noted c.in_ok-replay_line.ensures.blocks in (
            c.in_ok-replay_line.ensures.telling so_far.0,
            here,
            tiles_next _ _ _ i _ _ _ _ so_far.2 here c.laws-in-loop-index.ensures,
          );
    }

pub returns-clause-told : goal.returns-clause-told
returns-clause-told g c h =
    finished _ _ _ _ _ _ _
    (subst (λ front. SoFar g.K.Kernel.port c.args.process.now.t front (world_of c.args.process.now) (world_of c.loop-index.process) c.args.sheet.now c.loop-index.sheet)
    (take_all c.loop-index.index c.args.lines.now (omega arith)) (c.loop-index.invariant.told h).1)

pub returns-clause-tiled : goal.returns-clause-tiled
returns-clause-tiled g c h = tiles_all _ _ c.args.lines.now c.loop-index.index _ (omega arith) (c.loop-index.invariant.told h).2

pub returns-in_err-replay_line-clause-left : goal.returns-in_err-replay_line-clause-left
returns-in_err-replay_line-clause-left g c =
    let i = c.loop-index.index in
    let rest = drop (i + 1) c.args.lines.now in
    on_err c.from_residual.result (record {
      count = i;
      line = c.get-line.result;
      at = c.loop-index.process;
      noted = c.loop-index.sheet;
      next = c.get-line.ensures;
      ran = λ h. finished _ _ _ _ _ _ _ (c.loop-index.invariant.told h).1;
      settled = c.loop-index.invariant.settled;
      tunables = c.loop-index.invariant.tunables;
      short = c.in_err-replay_line.ensures.left rest (awaits_next _ _ i _ c.get-line.ensures c.loop-index.invariant.awaits);
    })
