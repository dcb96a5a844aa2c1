use Rattle.serial_places.proofs.TrayLists.{all_none}
use Rattle.serial_places.proofs.trays.Trays.new.Goals as goal

pub returns : goal.returns
returns c = all_none c.in_ok-with_capacity.field-0.items c.in_ok-with_capacity.ensures.items
