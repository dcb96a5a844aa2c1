use Rattle.std.proofs.Common.{◌<◌, length, sym, ap, ◌∙◌, arith}
use Rattle.serial_places.specs.Trays.{found_by_take, taken_tray}
use Rattle.serial_places.proofs.TrayLists.{all_read, all_written, all_past, take_past}
use Rattle.serial_places.proofs.trays.Trays.take.Goals as goal

pub returns-then-number-len-clause-told : goal.returns-then-number-len-clause-told
returns-then-number-len-clause-told c =
    let within : c.args.number < length c.self.inside.reached.items = omega arith in
    c.take.ensures.told ∙ ap found_by_take (all_read c.args.self.now c.self.inside.reached.items c.args.number c.index_mut.result.now c.self.view_is within c.index_mut.ensures.value)

pub returns-then-number-len-clause-trays : goal.returns-then-number-len-clause-trays
returns-then-number-len-clause-trays c =
    let within : c.args.number < length c.self.inside.reached.items = omega arith in
    all_written c.args.self.now c.self.inside.reached.items c.args.number c.index_mut.result.now c.take.new.tray taken_tray c.self.view_is within c.index_mut.ensures.value c.take.ensures.tray

pub returns-clause-told : goal.returns-clause-told
returns-clause-told c = sym (ap found_by_take (all_past c.args.self.now c.self.inside.reached.items c.args.number c.self.view_is (omega arith)))

pub returns-clause-trays : goal.returns-clause-trays
returns-clause-trays c = take_past c.args.self.now c.args.number (all_past c.args.self.now c.self.inside.reached.items c.args.number c.self.view_is (omega arith))
