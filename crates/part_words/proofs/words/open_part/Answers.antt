use Rattle.part_words.specs.Parts.{filled}
use Rattle.part_words.proofs.Filling.{Fills, filled_part, same_part, missing_part, short_part}
use Rattle.part_words.proofs.words.open_part.Goals as goal
use Rattle.part_words.proofs.words.open_part.Goals.{After-parts-1}

fills : (g : _) → (c : After-parts-1 g) → Fills c.args.parts.now.items c.add_parts.new.parts.items c.args.part c.index_mut-words.result.now
fills g c =
    record { added = c.add_parts.ensures.items; count = c.in_ok-add_parts.ensures.ok; read = c.index_mut-words.ensures.value }

pub returns-clause-ok : goal.returns-clause-ok
returns-clause-ok g c =
    filled_part _ _ _ _ _ (filled c.args.end g.T.Word.UNWRITTEN) c.open.result (fills g c) c.open.ensures.ok

pub returns-clause-err : goal.returns-clause-err
returns-clause-err g c =
    same_part _ _ _ _ _ c.open.result (fills g c) c.open.ensures.err

pub returns-clause-full : goal.returns-clause-full
returns-clause-full g c =
    short_part _ _ _ c.args.end _ c.open.result (fills g c) c.open.ensures.full

pub returns-in_err-add_parts-clause-full : goal.returns-in_err-add_parts-clause-full
returns-in_err-add_parts-clause-full g c =
    missing_part _ _ c.args.end c.from_residual.result c.in_err-add_parts.ensures.full
