use Rattle.std.proofs.lemmas.Result.{on_err_weaker}
use Rattle.trace_replay.proofs.sheet.Records.append.Goals as goal

pub returns-clause-full : goal.returns-clause-full
returns-clause-full c =
    on_err_weaker c.append_record.result
    (λ lacks line rest texts. rw (c.take.ensures line rest texts).0 at lacks) c.append_record.ensures.full
