use Rattle.std.proofs.Common.{◌∙◌}
use Rattle.serial_places.proofs.Insides.{added_serial, added, may_attach}
use Rattle.serial_places.proofs.serial.SerialPlaces.add.Goals as goal

pub attach-requires : goal.attach-requires
attach-requires c = may_attach c.self.inside c.args.self.now c.number-a.result c.args.arena c.self.view_is (rw c.as_ref.ensures at c.number-a.ensures) c.requires.new

pub invariant_of-self : goal.invariant_of-self
invariant_of-self c =
    added_serial c.self.inside c.args.self.now c.from.result c.args.thread c.args.arena c.new-bins.result c.attach.new.self c.self.view_is (c.from.ensures ∙ (rw c.as_ref.ensures at c.number-a.ensures))
    (rw (c.number-a.ensures, c.as_ref.ensures) at c.attach.ensures) c.requires.new c.self.invariant

pub returns : goal.returns
returns c =
    added c.self.inside c.args.self.now c.from.result c.args.thread c.args.arena c.new-bins.result c.attach.new.self c.self.view_is (c.from.ensures ∙ (rw c.as_ref.ensures at c.number-a.ensures))
    (rw (c.number-a.ensures, c.as_ref.ensures) at c.attach.ensures) c.new-bins.ensures c.requires.new c.self.invariant
