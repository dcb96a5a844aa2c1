use Rattle.serial_places.proofs.Insides.{seen, there_listed}
use Rattle.serial_places.proofs.SerialBooks.{reuses}
use Rattle.serial_places.proofs.SerialKeeps.{serial_book}
use Rattle.serial_places.proofs.serial.SerialPlaces.reuse.Goals as goal

pub invariant_of-self : goal.invariant_of-self
invariant_of-self c =
    rw c.reused.ensures (serial_book (seen c.self.inside) _ (reuses c.self.inside.book c.args.thread c.args.a c.self.inside.tunables c.self.invariant.sound
    (there_listed c.self.inside c.args.self.now c.args.a c.self.view_is c.requires.listed c.self.invariant)) c.self.invariant)
