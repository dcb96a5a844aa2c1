use Rattle.std.proofs.Common.{◌≡◌, ◌<◌, ◌+◌, ◌*◌, None, Some, refl, ap, ◌∙◌, arith}
use Rattle.part_words.specs.Pages.{slots, lone_slot}
use Rattle.part_words.proofs.CodeLaws.{lone_some, lone_none}
use Rattle.part_words.proofs.PoolLaws.{IsOwn, own_taken, small_taken, trades_before, trades_takes}
use Rattle.part_words.proofs.Recoding.{HasCode, has_code}
use Rattle.part_words.proofs.part.begun.Goals as goal
use Rattle.part_words.proofs.part.begun.Goals.{After-take-slot}

own : (g : _) → (c : After-take-slot g) → IsOwn c.take-slot.result c.take-slot.new.self
own g c = own_taken g.T.Word.UNWRITTEN 1 None c.take-slot.result c.args.lone.now _ c.requires.lone c.take-slot.ensures

small : (g : _) → (c : After-take-slot g) → c.take-slot.result < slots
small g c = small_taken g.T.Word.UNWRITTEN 1 None c.take-slot.result c.args.lone.now _ c.requires.lone refl c.take-slot.ensures

pub set_word-requires : goal.set_word-requires
set_word-requires g c =
    let h = own g (goal.at.set_word-requires g c).After-take-slot in
    (omega arith, (h.there, (omega arith, h.once)))

pub overflow_cast-result-2 : goal.overflow_cast-result-2
overflow_cast-result-2 g c = omega (arith, small g (goal.at.overflow_cast-result-2 g c).After-take-slot)

pub overflow_add-result-2 : goal.overflow_add-result-2
overflow_add-result-2 g c = omega (arith, small g (goal.at.overflow_add-result-2 g c).After-take-slot, c.requires.offset, c.requires.page.few)

code : (g : _) → (c : After-take-slot g) → HasCode ((g.row.PAGE + c.args.offset) * slots + c.take-slot.result) (g.row.PAGE + c.args.offset) c.take-slot.result
code g c = has_code (g.row.PAGE + c.args.offset) c.take-slot.result (small g c)

pub returns-clause-kind : goal.returns-clause-kind
returns-clause-kind g c = (code g (goal.at.returns-clause-kind g c).After-take-slot).kind_is

pub returns-clause-trades : goal.returns-clause-trades
returns-clause-trades g c =
    let none = g.T.Word.UNWRITTEN in
    let new = (g.row.PAGE + c.args.offset) * slots + c.take-slot.result in
    let h = code g (goal.at.returns-clause-trades g c).After-take-slot in
    let has : lone_slot g.row.PAGE new ≡ Some c.take-slot.result = lone_some g.row.PAGE new (omega (arith, h.kind_is)) ∙ ap Some h.slot_is in
    trades_before none 1 (lone_slot g.row.PAGE) 0 new c.take-slot.result 0 c.args.value c.args.lone.now _ _ has (trades_takes none 1 (lone_slot g.row.PAGE) 0 new c.take-slot.result c.args.lone.now _ (lone_none g.row.PAGE 0 (omega (arith, c.requires.page.some))) has c.take-slot.ensures) c.set_word.ensures

pub returns-clause-word : goal.returns-clause-word
returns-clause-word g c =
    rw (code g (goal.at.returns-clause-word g c).After-take-slot).slot_is c.set_word.ensures.here
