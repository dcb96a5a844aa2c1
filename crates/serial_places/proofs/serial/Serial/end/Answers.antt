use Rattle.serial_places.proofs.Insides.{ended}
use Rattle.serial_places.proofs.serial.Serial.end.Goals as goal

pub returns : goal.returns
returns c = record {
  ends = ended c.self.inside c.args.self c.in_ok-arenas.arenas.items _ _ c.in_ok-blocks.field-0.items c.self.view_is c.in_ok-arenas.ensures.arenas c.in_ok-arenas.ensures.fast
      c.book.view_is c.in_ok-blocks.ensures;
  ten = c.in_ok-arenas.ensures.ten;
}
