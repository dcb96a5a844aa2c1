use Rattle.serial_places.proofs.Insides.{seen}
use Rattle.serial_places.proofs.SerialBooks.{undoes}
use Rattle.serial_places.proofs.SerialKeeps.{serial_book}
use Rattle.serial_places.proofs.serial.SerialPlaces.undo.Goals as goal

pub invariant_of-self : goal.invariant_of-self
invariant_of-self c =
    rw c.undo_new.ensures (serial_book (seen c.self.inside) _ (undoes c.self.inside.book c.args.a c.self.inside.tunables c.self.invariant.sound) c.self.invariant)
