use Rattle.std.proofs.Common.{append_assoc}
use Rattle.kernel_calls.specs.Table.{mappings_text}
use Rattle.kernel_calls.proofs.table.push_mappings.Goals as goal

pub returns : goal.returns
unfolding mappings_text
returns c =
    let written = rw (c.in_ok-push_count-3.ensures, c.in_ok-push_count-2.ensures, c.in_ok-push_count.ensures) at c.push_count-4.ensures in
    simp append_assoc (simp append_assoc at written)
