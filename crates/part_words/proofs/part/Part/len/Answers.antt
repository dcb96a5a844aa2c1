use Rattle.std.proofs.Common.{sym}
use Rattle.part_words.proofs.PageLaws.{length-seen}
use Rattle.part_words.proofs.part.Part.len.Goals as goal

pub returns : goal.returns
returns g c =
    sym (length-seen g.T.Word.UNWRITTEN g.row.PAGE _ c.self.inside.codes.items c.self.inside.lone c.self.inside.whole _ c.self.view_is)
