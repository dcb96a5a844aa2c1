use Rattle.std.proofs.Common.{◌≡◌, ◌<◌, ◌+◌, ◌%◌, length, sym, ap, ◌∙◌, arith}
use Rattle.part_words.specs.Pages.{slots, lone_slot, whole_slot}
use Rattle.part_words.proofs.CodeLaws.{lone_some, whole_none}
use Rattle.part_words.proofs.PageLaws.{Writes, lone_own}
use Rattle.part_words.proofs.PoolLaws.{IsOwn, own_taken, own_set, small_taken, may_give}
use Rattle.part_words.proofs.Recoding.{widens}
use Rattle.part_words.proofs.part.widened.Goals as goal
use Rattle.part_words.proofs.part.widened.Goals.{Start, After-take-slot, After-set_word-3}

own : (g : _) → (c : Start g) → IsOwn (c.args.code % slots) c.args.lone.now
own g c = lone_own g.row.PAGE c.args.lone.now c.args.code c.requires.lone c.requires.alone

pub word-word-requires : goal.word-word-requires
word-word-requires g c = (omega arith, ((own g (goal.at.word-word-requires g c).Start).there, omega arith))

pub set_word-requires : goal.set_word-requires
set_word-requires g c =
    let h = own g (goal.at.set_word-requires g c).Start in
    (omega arith, (h.there, (omega arith, h.once)))

pub give-requires : goal.give-requires
give-requires g c =
    let s = c.set_word.ensures in
    let h = own_set g.T.Word.UNWRITTEN 1 (c.args.code % slots) (c.args.code % slots) 0 _ c.args.lone.now c.set_word.new.self (own g (goal.at.give-requires g c).Start) s in
    let room = may_give (lone_slot g.row.PAGE c.args.code) (c.args.code % slots) c.args.lone.now c.requires.lone (lone_some g.row.PAGE c.args.code c.requires.alone) in
    (omega arith, (omega arith, (h.there, (h.once, ((λ x lt. let z : x ≡ 0 = omega (arith, lt) in rw z (s.here ∙ c.UNWRITTEN.ensures)), omega (arith, room, ap length s.free, s.room))))))

taken : (g : _) → (c : After-take-slot g) → IsOwn c.take-slot.result c.take-slot.new.self
taken g c = own_taken g.T.Word.UNWRITTEN g.row.PAGE (whole_slot c.args.code) c.take-slot.result c.args.whole.now _ c.requires.whole c.take-slot.ensures

small : (g : _) → (c : After-take-slot g) → c.take-slot.result < slots
small g c = small_taken g.T.Word.UNWRITTEN g.row.PAGE (whole_slot c.args.code) c.take-slot.result c.args.whole.now _ c.requires.whole (whole_none c.args.code (λ e. omega (arith, e, c.requires.page.some, c.requires.alone))) c.take-slot.ensures

pub set_word-requires-2 : goal.set_word-requires-2
set_word-requires-2 g c =
    let h = taken g (goal.at.set_word-requires-2 g c).After-take-slot in
    (omega arith, (h.there, (omega (arith, c.requires.alone, c.requires.needed.kind), h.once)))

pub set_word-requires-3 : goal.set_word-requires-3
set_word-requires-3 g c =
    let h = own_set g.T.Word.UNWRITTEN g.row.PAGE c.take-slot.result c.take-slot.result _ _ c.take-slot.new.self c.set_word-2.new.self (taken g (goal.at.set_word-requires-3 g c).After-take-slot) c.set_word-2.ensures in
    (omega arith, (h.there, (omega (arith, c.requires.offset), h.once)))

pub overflow_cast-result-2 : goal.overflow_cast-result-2
overflow_cast-result-2 g c = omega (arith, small g (goal.at.overflow_cast-result-2 g c).After-take-slot)

pub overflow_add-result : goal.overflow_add-result
overflow_add-result g c = omega (arith, small g (goal.at.overflow_add-result g c).After-take-slot)

widening : (g : _) → (c : After-set_word-3 g) → c.take-slot.result < slots → Writes g.T.Word.UNWRITTEN g.row.PAGE c.args.code c.args.lone.now c.args.whole.now c.args.offset c.args.value (slots + c.take-slot.result) c.give.new.self c.set_word-3.new.self
widening g c lt =
    widens g.T.Word.UNWRITTEN g.row.PAGE c.args.code c.args.lone.now c.args.whole.now c.set_word.new.self c.give.new.self c.take-slot.new.self c.set_word-2.new.self c.set_word-3.new.self c.args.offset c.args.value c.word-word.result (slots + c.take-slot.result) c.take-slot.result (record {
      some = c.requires.page.some;
      low = c.requires.alone;
      high = c.requires.needed.kind;
      other = c.requires.other;
      within = c.requires.offset;
      is = c.word-word.ensures;
      word_written = λ e. c.requires.needed.alone c.requires.alone (sym c.word-word.ensures ∙ e);
      written = c.requires.written;
      cleared = rw c.UNWRITTEN.ensures at c.set_word.ensures;
      given = c.give.ensures;
      taken = c.take-slot.ensures;
      first = c.set_word-2.ensures;
      second = c.set_word-3.ensures;
      has = record { kind_is = omega (arith, lt); slot_is = omega (arith, lt) };
    })

pub returns-clause-recodes : goal.returns-clause-recodes
returns-clause-recodes g c =
    let b = goal.at.returns-clause-recodes g c in
    (widening g b.After-set_word-3 (small g b.After-take-slot)).recodes

pub returns-clause-written : goal.returns-clause-written
returns-clause-written g c =
    let b = goal.at.returns-clause-written g c in
    (widening g b.After-set_word-3 (small g b.After-take-slot)).written

pub returns-clause-others : goal.returns-clause-others
returns-clause-others g c =
    let b = goal.at.returns-clause-others g c in
    (widening g b.After-set_word-3 (small g b.After-take-slot)).others
