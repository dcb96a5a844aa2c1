use Rattle.part_words.proofs.PageLaws.{no_part}
use Rattle.part_words.proofs.part.Part.new.Goals as goal

pub invariant_of-result : goal.invariant_of-result
invariant_of-result g c =
    rw c.new.ensures.items (no_part g.T.Word.UNWRITTEN g.row.PAGE c.new-2.result c.new-3.result c.requires.page c.new-2.ensures.count c.new-2.ensures.free c.new-3.ensures.count c.new-3.ensures.free)
