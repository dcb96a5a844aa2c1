use Rattle.arena_holds.specs.Returning.{found_in_tray}
use Rattle.serial_places.proofs.Insides.{taken}
use Rattle.serial_places.proofs.serial.SerialPlaces.take.Goals as goal

pub returns : goal.returns
returns c =
    taken c.self.inside c.args.self.now c.args.tray (found_in_tray c.take.result) c.take.new.self c.self.view_is c.requires.tray c.take.ensures.told c.take.ensures.trays c.self.invariant
