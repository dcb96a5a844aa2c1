use Rattle.std.proofs.Common.{ap, arith}
use Rattle.part_words.specs.Extents.{Extent}
use Rattle.part_words.specs.Parts.{word_at}
use Rattle.part_words.proofs.Filling.{cut_back, word_at-filled, length-filled}
use Rattle.part_words.proofs.words.Words.open.Goals as goal

pub returns-in-Ok-clause-words : goal.returns-in-Ok-clause-words
returns-in-Ok-clause-words g c = rw (c.in-Ok.ensures.ok, ← c.self.view_is) (word_at-filled _ _ _ g.T.Word.UNWRITTEN)

pub returns-in-Ok-clause-extent : goal.returns-in-Ok-clause-extent
returns-in-Ok-clause-extent g c =
    rw (c.in-Ok.ensures.ok, ← c.self.view_is) (ap (λ ws. record { base = c.self.inside.base; width = c.self.inside.width; words = ws }) (length-filled _ _ g.T.Word.UNWRITTEN _))

pub returns-in-Err-clause-err : goal.returns-in-Err-clause-err
returns-in-Err-clause-err g c =
    rw (c.truncate.ensures.items, ← c.self.view_is) (ap (λ ps. record { base = c.self.inside.base; width = c.self.inside.width; parts = ps }) (cut_back _ c.self.inside.parts.items _ _ c.in-Err.ensures.err (omega (arith, c.len-before.ensures, c.self.inside.parts.ok.0))))

pub returns-in-Err-clause-words : goal.returns-in-Err-clause-words
returns-in-Err-clause-words g c = ap (λ ws. word_at ws g.T.Word.UNWRITTEN) (returns-in-Err-clause-err g c)

pub returns-in-Err-clause-full : goal.returns-in-Err-clause-full
returns-in-Err-clause-full g c =
    rw (← c.self.view_is) (λ same. c.in-Err.ensures.full (ap (λ (e : Extent). e.words) same))
