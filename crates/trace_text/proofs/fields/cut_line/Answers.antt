use Rattle.std.proofs.Common.{◌+◌, ◌==◌}
use Rattle.std.proofs.lemmas.List.{take_rest}
use Rattle.trace_text.proofs.Cuts.{split_at_first, split_nowhere}
use Rattle.trace_text.proofs.fields.cut_line.Goals as goal

pub returns-in_err-end-clause-parts : goal.returns-in_err-end-clause-parts
returns-in_err-end-clause-parts c = rw c.from_residual.ensures (split_nowhere (λ b. b == 10) c.args.text.now c.in_err-end.ensures)

pub returns-clause-parts : goal.returns-clause-parts
returns-clause-parts c =
    rw (take_rest c.args.text.now (c.in_ok-end.end + 1)) (split_at_first (λ b. b == 10) c.args.text.now 0 c.in_ok-end.end c.in_ok-end.ensures)
