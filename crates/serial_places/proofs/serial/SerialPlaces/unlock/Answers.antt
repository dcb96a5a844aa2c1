use Rattle.std.proofs.Common.{sym, ◌∙◌}
use Rattle.serial_places.specs.SerialWays.{kept_ground}
use Rattle.serial_places.proofs.Insides.{with_back, back_serial, gave_slot}
use Rattle.serial_places.proofs.SerialLaws.{unlocked}
use Rattle.serial_places.proofs.serial.SerialPlaces.unlock.Goals as goal

pub invariant_of-self : goal.invariant_of-self
invariant_of-self c =
    back_serial c.self.inside c.args.self.now c.from.result c.unwrap-a.result c.args.arena c.args.hold c.take.new.self c.self.view_is c.requires.lent
    (sym c.take.ensures.value ∙ c.unwrap-a.ensures) c.from.ensures c.take.ensures.after c.self.invariant

pub returns-clause-gave : goal.returns-clause-gave
returns-clause-gave c =
    gave_slot c.self.inside c.args.self.now c.from.result c.unwrap-a.result c.args.arena c.args.hold c.take.new.self c.self.view_is
    (sym c.take.ensures.value ∙ c.unwrap-a.ensures) c.from.ensures c.take.ensures.after

pub returns-clause-unlocked : goal.returns-clause-unlocked
returns-clause-unlocked c = λ places a port before lent goes.
    unlocked places c.args.self.now (with_back c.self.inside c.from.result c.args.arena c.args.hold c.take.new.self) a port c.args.hold before (kept_ground c.args.arena) lent
    (gave_slot c.self.inside c.args.self.now c.from.result c.unwrap-a.result c.args.arena c.args.hold c.take.new.self c.self.view_is
    (sym c.take.ensures.value ∙ c.unwrap-a.ensures) c.from.ensures c.take.ensures.after)
