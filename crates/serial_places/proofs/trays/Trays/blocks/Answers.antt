use Rattle.serial_places.proofs.TrayLists.{full_all}
use Rattle.serial_places.proofs.trays.Trays.blocks.Goals as goal

pub returns : goal.returns
returns c = rw (← c.self.view_is, full_all 0 c.self.inside.reached.items) c.blocks_in.ensures
