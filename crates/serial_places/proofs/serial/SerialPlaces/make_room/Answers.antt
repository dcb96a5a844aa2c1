use Rattle.std.proofs.Common.{◌≡◌, Some, sym, ap, ◌∙◌}
use Rattle.std.specs.Option.{option_copied_mut}
use Rattle.serial_places.specs.SerialWays.{slot_in}
use Rattle.serial_places.proofs.Insides.{read_slot, slot_serial, idle_slot, unseen_slot, room_made, no_room}
use Rattle.serial_places.proofs.serial.SerialPlaces.make_room.Goals as goal

at_slot : (c : goal.After-self-1) → slot_in c.self.inside.arenas.items c.args.a ≡ Some c.unwrap-slot.result.now
at_slot c =
    read_slot c.self.inside c.args.self.now c.from.result c.args.a c.index_mut.result.now c.unwrap-slot.result.now c.self.view_is c.requires.there c.from.ensures c.index_mut.ensures.value
    (sym c.as_mut.ensures.value ∙ ap option_copied_mut c.unwrap-slot.ensures)

pub invariant_of-self : goal.invariant_of-self
invariant_of-self c = slot_serial c.self.inside c.args.self.now c.from.result c.args.a c.unwrap-slot.result.now c.make_room.new.self c.self.view_is c.from.ensures (at_slot c) c.self.invariant

pub returns-clause-idle : goal.returns-clause-idle
returns-clause-idle c = idle_slot c.self.inside c.args.self.now c.from.result c.args.a c.unwrap-slot.result.now c.make_room.new.self c.self.view_is c.from.ensures (at_slot c) c.make_room.ensures.idle

pub returns-clause-room : goal.returns-clause-room
returns-clause-room c =
    room_made c.self.inside c.args.self.now c.from.result c.args.a c.unwrap-slot.result.now c.make_room.new.self c.make_room.result c.self.view_is c.from.ensures (at_slot c) c.make_room.ensures.room

pub returns-clause-full : goal.returns-clause-full
returns-clause-full c = no_room c.self.inside c.args.self.now c.args.a c.unwrap-slot.result.now c.make_room.new.self c.make_room.result c.self.view_is (at_slot c) c.make_room.ensures.full

pub returns-clause-unseen : goal.returns-clause-unseen
returns-clause-unseen c = unseen_slot c.self.inside c.args.self.now c.from.result c.args.a c.unwrap-slot.result.now c.make_room.new.self c.self.view_is c.from.ensures (at_slot c) c.make_room.ensures.idle
