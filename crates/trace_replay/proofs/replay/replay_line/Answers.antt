use Rattle.std.proofs.Common.{inr}
use Rattle.trace_replay.proofs.Results.{on_err}
use Rattle.trace_replay.proofs.replay.replay_line.Goals as goal

pub returns-in_err-note-clause-left : goal.returns-in_err-note-clause-left
returns-in_err-note-clause-left g c =
    on_err c.from_residual-in_err-note.result (λ rest awaits. inr (record { reply = c.in_ok-reply.reply; told = c.in_ok-reply.ensures.told; full = c.in_err-note.ensures.full rest awaits }))
