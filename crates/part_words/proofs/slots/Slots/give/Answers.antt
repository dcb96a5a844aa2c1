use Rattle.part_words.proofs.SlotLaws.{slots_given}
use Rattle.part_words.proofs.slots.Slots.give.Goals as goal

pub invariant_of-self : goal.invariant_of-self
invariant_of-self g c =
    slots_given g.T.Word.UNWRITTEN g.row.N c.self.inside.words.items c.self.inside.count c.self.inside.free.items c.push.new.self.items c.args.slot c.self.invariant (rw (← c.self.view_is) at c.requires.slot) (rw (← c.self.view_is) at c.requires.taken) (rw (← c.self.view_is) at c.requires.clear) (rw c.unwrap.ensures at c.push.ensures.items)
