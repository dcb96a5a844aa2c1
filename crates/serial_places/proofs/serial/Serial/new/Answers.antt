use Rattle.serial_places.specs.declared.slot.Slot.{Slot}
use Rattle.serial_places.proofs.SerialFirst.{IsNewMain, first_serial, is_first}
use Rattle.serial_places.proofs.serial.Serial.new.Goals as goal

main_of : (c : goal.After-result-2-1) → Slot
main_of c = record { arena = record { ground = c.in_ok-first_ground.field-0; journal = c.in_ok-new.field-0 }; bins = c.new-2.result }

new_main : (c : goal.After-result-2-1) → IsNewMain (main_of c)
unfolding main_of
new_main c = record { ground = c.in_ok-first_ground.ensures; journal = c.in_ok-new.ensures; bins_empty = c.new-2.ensures }

pub invariant_of-result : goal.invariant_of-result
unfolding main_of
invariant_of-result c =
    first_serial c.args.t.now (main_of c) c.in_ok-first_slots.field-0.items _ c.in_ok-new-2.field-0 c.in_ok-new-3.field-0 c.requires.one c.requires.most (new_main c)
    c.in_ok-first_slots.ensures c.in_ok-new-2.ensures c.in_ok-new-3.ensures

pub returns : goal.returns
unfolding main_of
returns c =
    is_first c.args.t.now (main_of c) c.in_ok-first_slots.field-0.items c.in_ok-new-2.field-0 c.in_ok-new-3.field-0 (new_main c)
    c.in_ok-first_slots.ensures c.in_ok-new-2.ensures c.in_ok-new-3.ensures
