use Rattle.std.proofs.Common.{◌≡◌, ◌<◌, length, Some, IsTrue, sym, ap, ◌∙◌, arith}
use Rattle.std.specs.Option.{is_some, option_copied_mut}
use Rattle.serial_places.specs.SerialWays.{slot_in, is_there}
use Rattle.serial_places.proofs.Insides.{inside_within, read_slot, read_there, slot_seen, slot_serial, known_alone, pushed_slot, gone_slot}
use Rattle.serial_places.proofs.Pushing.{fresh_slot}
use Rattle.serial_places.proofs.SerialLaws.{room_at}
use Rattle.serial_places.proofs.serial.SerialPlaces.push.Goals as goal

pub index_mut-requires : goal.index_mut-requires
index_mut-requires c =
    let there = known_alone c.args.self.now c.args.b c.unwrap-a.result c.requires.served c.unwrap-a.ensures in
    let within : c.unwrap-a.result < length c.self.inside.arenas.items = inside_within c.self.inside c.args.self.now c.unwrap-a.result c.self.view_is there in
    omega (arith, within, c.from.ensures)

pub unwrap-slot-requires : goal.unwrap-slot-requires
unwrap-slot-requires c =
    let there : IsTrue (is_there c.args.self.now c.unwrap-a.result) = known_alone c.args.self.now c.args.b c.unwrap-a.result c.requires.served c.unwrap-a.ensures in
    let some : IsTrue (is_some c.index_mut.result.now) = read_there c.self.inside c.args.self.now c.from.result c.unwrap-a.result c.index_mut.result.now c.self.view_is there c.from.ensures c.index_mut.ensures.value in
    c.as_mut.ensures.variant ∙ some

at_slot : (c : goal.After-fast_index) → slot_in c.self.inside.arenas.items c.unwrap-a.result ≡ Some c.unwrap-slot.result.now
at_slot c =
    read_slot c.self.inside c.args.self.now c.from.result c.unwrap-a.result c.index_mut.result.now c.unwrap-slot.result.now c.self.view_is
    (known_alone c.args.self.now c.args.b c.unwrap-a.result c.requires.served c.unwrap-a.ensures) c.from.ensures c.index_mut.ensures.value
    (sym c.as_mut.ensures.value ∙ ap option_copied_mut c.unwrap-slot.ensures)

pub push-requires-clause-room : goal.push-requires-clause-room
push-requires-clause-room c =
    room_at c.args.self.now c.unwrap-a.result _ c.fast_index.result (slot_seen c.self.inside c.args.self.now c.unwrap-a.result c.unwrap-slot.result.now c.self.view_is (at_slot c))
    (c.requires.room c.unwrap-a.result c.unwrap-a.ensures) (omega (arith, c.fast_index.ensures, c.requires.fast))

pub push-requires-clause-fresh : goal.push-requires-clause-fresh
push-requires-clause-fresh c =
    fresh_slot c.self.inside c.args.self.now c.unwrap-a.result c.unwrap-slot.result.now c.args.b c.fast_index.result c.self.view_is c.self.invariant (at_slot c) c.unwrap-a.ensures c.requires.chunk c.fast_index.ensures c.requires.served

at_slot_2 : (c : goal.After-self-1) → slot_in c.self.inside.arenas.items c.unwrap-a.result ≡ Some c.unwrap-slot.result.now
at_slot_2 c =
    read_slot c.self.inside c.args.self.now c.from.result c.unwrap-a.result c.index_mut.result.now c.unwrap-slot.result.now c.self.view_is
    (known_alone c.args.self.now c.args.b c.unwrap-a.result c.requires.served c.unwrap-a.ensures) c.from.ensures c.index_mut.ensures.value
    (sym c.as_mut.ensures.value ∙ ap option_copied_mut c.unwrap-slot.ensures)

pub invariant_of-self : goal.invariant_of-self
invariant_of-self c =
    slot_serial c.self.inside c.args.self.now c.from.result c.unwrap-a.result c.unwrap-slot.result.now c.push.new.self c.self.view_is c.from.ensures (at_slot_2 c) c.self.invariant

pub returns-clause-pushed : goal.returns-clause-pushed
returns-clause-pushed c =
    pushed_slot c.self.inside c.args.self.now c.from.result c.unwrap-a.result c.unwrap-slot.result.now c.args.b c.push.new.self c.self.view_is c.from.ensures c.unwrap-a.ensures (at_slot_2 c)
    (rw c.fast_index.ensures at c.push.ensures)

pub returns-clause-gone : goal.returns-clause-gone
returns-clause-gone c =
    gone_slot c.self.inside c.args.self.now c.from.result c.unwrap-a.result c.unwrap-slot.result.now c.args.b c.push.new.self c.self.view_is c.from.ensures c.unwrap-a.ensures c.requires.chunk
    (at_slot_2 c) (rw c.fast_index.ensures at c.push.ensures)
