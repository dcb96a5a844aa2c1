use Rattle.std.proofs.Common.{◌≡◌, ◌+◌, ◌/◌, ◌%◌, length, ap, ◌∙◌, arith}
use Rattle.part_words.specs.Pages.{slots, lone_slot}
use Rattle.part_words.proofs.CodeLaws.{lone_some}
use Rattle.part_words.proofs.PageLaws.{lone_own, whole_own}
use Rattle.part_words.proofs.PoolLaws.{IsOwn, own_set, may_give}
use Rattle.part_words.proofs.Recoding.{ends, writes_narrowed}
use Rattle.part_words.proofs.part.rewritten.Goals as goal
use Rattle.part_words.proofs.part.rewritten.Goals.{Start}

pub set_word-requires : goal.set_word-requires
set_word-requires g c =
    let h = whole_own c.args.whole.now c.args.code c.requires.whole c.if-kind-eq-WHOLE.true in
    (omega arith, (h.there, (omega (arith, c.requires.offset), h.once)))

alone : (g : _) → (c : Start g) → c.args.code / slots ≡ g.row.PAGE + c.args.offset → IsOwn (c.args.code % slots) c.args.lone.now
alone g c kind = lone_own g.row.PAGE c.args.lone.now c.args.code c.requires.lone (omega (arith, kind))

pub set_word-requires-then-kind-offset : goal.set_word-requires-then-kind-offset
set_word-requires-then-kind-offset g c =
    let h = alone g (goal.at.set_word-requires-then-kind-offset g c).Start c.if-kind-offset.true in
    (omega arith, (h.there, (omega arith, h.once)))

pub give-requires : goal.give-requires
give-requires g c =
    let s = c.set_word-then-kind-offset.ensures in
    let h = own_set g.T.Word.UNWRITTEN 1 (c.args.code % slots) (c.args.code % slots) 0 _ c.args.lone.now c.set_word-then-kind-offset.new.self (alone g (goal.at.give-requires g c).Start c.if-kind-offset.true) s in
    let room = may_give (lone_slot g.row.PAGE c.args.code) (c.args.code % slots) c.args.lone.now c.requires.lone (lone_some g.row.PAGE c.args.code (omega (arith, c.if-kind-offset.true))) in
    (omega arith, (omega arith, (h.there, (h.once, ((λ x lt. let z : x ≡ 0 = omega (arith, lt) in rw z (s.here ∙ c.is_unwritten-then-kind-offset.ensures.unwritten c.if-is_unwritten-2.true)), omega (arith, room, ap length s.free, s.room))))))

pub returns-then-is_unwritten-clause-recodes : goal.returns-then-is_unwritten-clause-recodes
returns-then-is_unwritten-clause-recodes g c =
    let n = c.narrowed.ensures in
    (writes_narrowed g.T.Word.UNWRITTEN g.row.PAGE c.args.code c.narrowed.result c.args.lone.now c.args.whole.now c.set_word.new.self c.narrowed.new.lone c.narrowed.new.whole c.args.offset c.args.value c.requires.offset c.if-kind-eq-WHOLE.true c.set_word.ensures (record { recodes = n.recodes; words = n.words })).recodes

pub returns-then-is_unwritten-2-clause-recodes : goal.returns-then-is_unwritten-2-clause-recodes
returns-then-is_unwritten-2-clause-recodes g c =
    (ends g.T.Word.UNWRITTEN g.row.PAGE c.args.code c.args.lone.now c.args.whole.now c.set_word-then-kind-offset.new.self c.give.new.self c.args.offset c.args.value c.requires.page.some c.if-kind-offset.true c.set_word-then-kind-offset.ensures c.give.ensures (c.is_unwritten-then-kind-offset.ensures.unwritten c.if-is_unwritten-2.true)).recodes
