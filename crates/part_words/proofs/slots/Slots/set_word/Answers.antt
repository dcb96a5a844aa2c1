use Rattle.std.proofs.Common.{refl}
use Rattle.part_words.proofs.SlotLaws.{slots_set, sets}
use Rattle.part_words.proofs.slots.Slots.set_word.Goals as goal

pub invariant_of-self : goal.invariant_of-self
invariant_of-self g c =
    slots_set g.T.Word.UNWRITTEN g.row.N c.self.inside.words.items c.self.inside.count c.self.inside.free.items c.args.slot c.args.offset c.args.word c.self.invariant (rw (← c.self.view_is) at c.requires.slot) c.requires.offset (rw (← c.self.view_is) at c.requires.taken)

pub returns : goal.returns
returns g c =
    rw (← c.self.view_is) (sets g.T.Word.UNWRITTEN g.row.N _ _ c.args.slot c.args.offset c.args.word c.self.invariant (rw (← c.self.view_is) at c.requires.slot) c.requires.offset refl refl refl refl)
