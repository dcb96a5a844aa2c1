use Rattle.serial_places.proofs.Insides.{seen}
use Rattle.serial_places.proofs.SerialBooks.{leaves}
use Rattle.serial_places.proofs.SerialKeeps.{serial_book}
use Rattle.serial_places.proofs.serial.SerialPlaces.leave.Goals as goal

pub invariant_of-self : goal.invariant_of-self
invariant_of-self c =
    rw c.detach.ensures (serial_book (seen c.self.inside) _ (leaves c.self.inside.book c.args.thread c.self.inside.tunables c.self.invariant.sound) c.self.invariant)
