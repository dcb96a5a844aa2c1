use Rattle.std.proofs.Common.{◌≤◌, ◌*◌, ap, length, arith}
use Rattle.std.proofs.lemmas.Grind.{common_steps}
use Rattle.std.specs.Vec.{vec_capacity}
use Rattle.part_words.proofs.SlotLaws.{slots_fit}
use Rattle.part_words.proofs.slots.Slots.make_room.Goals as goal

pub returns-clause-room : goal.returns-clause-room
returns-clause-room g c =
    let room : c.args.count * g.row.N ≤ vec_capacity c.make_room_for.new.list = omega (arith, c.in_ok-make_room_for.ensures.room, c.saturating_sub-room.ensures, c.len.ensures, c.self.inside.words.ok.0, c.make_room_for.new.list.ok.0, ap length c.make_room_for.ensures.items) in
    grind (arith, common_steps, slots_fit g.row.N c.args.count (vec_capacity c.make_room_for.new.list) c.requires.some room)
