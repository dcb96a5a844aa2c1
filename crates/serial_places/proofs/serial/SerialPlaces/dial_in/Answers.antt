use Rattle.std.proofs.Common.{ap}
use Rattle.serial_places.specs.SerialWays.{SerialState}
use Rattle.serial_places.proofs.SerialLaws.{returned}
use Rattle.serial_places.proofs.serial.SerialPlaces.dial_in.Goals as goal

pub returns-clause-returned : goal.returns-clause-returned
returns-clause-returned c = λ places first steps lent walk.
    returned places c.args.self.now _ first c.args.d steps lent walk (ap (λ (s : SerialState). let st : SerialState = record s { dials = c.args.d } in st) c.self.view_is)
