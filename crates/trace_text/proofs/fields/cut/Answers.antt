use Rattle.std.proofs.Common.{◌+◌, ◌==◌}
use Rattle.std.proofs.lemmas.List.{take_rest}
use Rattle.trace_text.proofs.Cuts.{split_at_first, split_nowhere}
use Rattle.trace_text.proofs.fields.cut.Goals as goal

pub returns-in_err-end : goal.returns-in_err-end
returns-in_err-end c = rw c.from_residual.ensures (split_nowhere (λ b. b == c.args.byte) c.args.text.now c.in_err-end.ensures)

pub returns : goal.returns
returns c =
    rw (take_rest c.args.text.now (c.in_ok-end.end + 1)) (split_at_first (λ b. b == c.args.byte) c.args.text.now 0 c.in_ok-end.end c.in_ok-end.ensures)
