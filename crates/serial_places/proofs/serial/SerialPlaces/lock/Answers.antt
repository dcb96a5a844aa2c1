use Rattle.std.proofs.Common.{sym, ◌∙◌}
use Rattle.serial_places.proofs.Insides.{read_slot, lent_serial, lent_slot}
use Rattle.serial_places.proofs.serial.SerialPlaces.lock.Goals as goal

pub invariant_of-self : goal.invariant_of-self
invariant_of-self c =
    rw (c.from.ensures, c.take.ensures.after) (lent_serial c.self.inside c.args.self.now c.args.a c.self.view_is c.requires.there c.self.invariant)

pub returns-clause-lent : goal.returns-clause-lent
returns-clause-lent c =
    rw (c.from.ensures, c.take.ensures.after) (lent_slot c.self.inside c.args.self.now c.args.a c.unwrap-arena.result c.self.view_is c.self.invariant
    (read_slot c.self.inside c.args.self.now c.from.result c.args.a c.index_mut-slot.result.now c.unwrap-arena.result c.self.view_is c.requires.there c.from.ensures c.index_mut-slot.ensures.value
    (sym c.take.ensures.value ∙ c.unwrap-arena.ensures)))
