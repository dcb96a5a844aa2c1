use Rattle.std.proofs.Common.{ℕ, List, subst}
use Rattle.trace_replay.specs.Sheets.{IsTrace}
use Rattle.trace_replay.proofs.SheetLaws.{bytes_spell}
use Rattle.trace_replay.proofs.text.text_of_bytes.Goals as goal

pub text_over-requires-clause-spelled : goal.text_over-requires-clause-spelled
text_over-requires-clause-spelled g c =
    let spelled = subst (λ (bytes : List ℕ). IsTrace c.in_ok-lines.lines bytes) c.as_slice.ensures.value c.in_ok-lines.ensures.spelled in
    λ k l. bytes_spell c.args.asked.now.summary c.args.bytes.items c.in_ok-lines.lines spelled
