use Rattle.std.proofs.Common.{◌≡◌, sym, ◌∙◌}
use Rattle.arena_choice.specs.declared.choice.Choice.TheVariants.{Free}
use Rattle.arena_holds.specs.BookChanges.{Chooses, book_after}
use Rattle.serial_places.proofs.Insides.{book_free, book_other, chosen_serial, chosen}
use Rattle.serial_places.proofs.serial.SerialPlaces.choose.Goals as goal

after_free : (c : goal.After-attach) → c.attach.new.self ≡ book_after c.args.t.now (Chooses c.args.thread c.args.fresh) c.self.inside.book
after_free c =
    book_free c.self.inside.book c.choose-choice.new.self c.attach.new.self c.args.thread c.args.fresh c.args.t.now c.choose-choice.result c.in-Free.a c.in-Free.is
    c.choose-choice.ensures.choice c.choose-choice.ensures.book c.attach.ensures

after_other : (c : goal.In_default) → c.choose-choice.new.self ≡ book_after c.args.t.now (Chooses c.args.thread c.args.fresh) c.self.inside.book
after_other c =
    book_other c.self.inside.book c.choose-choice.new.self c.args.thread c.args.fresh c.args.t.now c.choose-choice.result c.in_default.not-Free
    c.choose-choice.ensures.choice c.choose-choice.ensures.book

pub invariant_of-self : goal.invariant_of-self
invariant_of-self c = chosen_serial c.self.inside c.attach.new.self c.args.thread c.args.fresh c.args.t.now (after_free c) c.self.invariant

pub invariant_of-self-in_default : goal.invariant_of-self-in_default
invariant_of-self-in_default c = chosen_serial c.self.inside c.choose-choice.new.self c.args.thread c.args.fresh c.args.t.now (after_other c) c.self.invariant

pub returns-in-Free : goal.returns-in-Free
returns-in-Free c =
    chosen c.self.inside c.args.self.now c.attach.new.self c.args.thread c.args.fresh c.args.t.now (Free c.in-Free.a) c.self.view_is c.requires.tunables c.requires.whole c.self.invariant
    (sym c.in-Free.is ∙ c.choose-choice.ensures.choice) (after_free c)

pub returns-in_default : goal.returns-in_default
returns-in_default c =
    chosen c.self.inside c.args.self.now c.choose-choice.new.self c.args.thread c.args.fresh c.args.t.now c.choose-choice.result c.self.view_is c.requires.tunables c.requires.whole c.self.invariant
    c.choose-choice.ensures.choice (after_other c)
