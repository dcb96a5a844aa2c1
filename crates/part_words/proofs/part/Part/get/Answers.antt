use Rattle.std.proofs.Common.{◌≡◌, ◌/◌, ◌%◌, ◌<◌, get_or, length, sym, ◌∙◌, arith}
use Rattle.std.proofs.Math.Nat.{mod-lt}
use Rattle.part_words.proofs.CodeLaws.{word_whole, word_lone, word_none}
use Rattle.part_words.proofs.PageLaws.{page_below, length-seen, seen_word, code_read, lone_in, whole_in, lone_own, whole_own}
use Rattle.part_words.proofs.part.Part.get.Goals as goal
use Rattle.part_words.proofs.part.Part.get.Goals.{After-self, After-index-code}

page_there : (g : _) → (c : After-self g) → c.args.word / g.row.PAGE < length c.self.inside.codes.items
page_there g c =
    page_below g.row.PAGE c.args.word c.self.inside.len (length c.self.inside.codes.items) c.self.invariant.paged.size.some (omega (arith, c.requires, length-seen g.T.Word.UNWRITTEN g.row.PAGE _ c.self.inside.codes.items c.self.inside.lone c.self.inside.whole _ c.self.view_is)) c.self.invariant.all

code : (g : _) → (c : After-index-code g) → get_or c.self.inside.codes.items (c.args.word / g.row.PAGE) 0 ≡ c.index-code.result.now
code g c =
    code_read c.self.inside.codes.items (c.args.word / g.row.PAGE) c.index-code.result.now c.index-code.ensures (page_there g c.before)

pub index-code-requires : goal.index-code-requires
index-code-requires g c = omega (arith, page_there g c, c.self.inside.codes.ok.0)

pub word-requires : goal.word-requires
word-requires g c =
    let b = (goal.at.word-requires g c).After-index-code in
    let h = whole_in g.T.Word.UNWRITTEN g.row.PAGE c.self.inside.codes.items c.self.inside.lone c.self.inside.whole (c.args.word / g.row.PAGE) c.index-code.result.now c.self.invariant.paged (page_there g b.before) (code g b) in
    (omega arith, ((whole_own c.self.inside.whole c.index-code.result.now h c.if-kind-eq-WHOLE.true).there, mod-lt c.args.word (omega (arith, c.self.invariant.paged.size.some))))

pub word-requires-then-kind-word : goal.word-requires-then-kind-word
word-requires-then-kind-word g c =
    let b = (goal.at.word-requires-then-kind-word g c).After-index-code in
    let h = lone_in g.T.Word.UNWRITTEN g.row.PAGE c.self.inside.codes.items c.self.inside.lone c.self.inside.whole (c.args.word / g.row.PAGE) c.index-code.result.now c.self.invariant.paged (page_there g b.before) (code g b) in
    (omega arith, ((lone_own g.row.PAGE c.self.inside.lone c.index-code.result.now h (omega (arith, c.if-kind-word.true))).there, omega arith))

pub returns-then-kind-eq-WHOLE : goal.returns-then-kind-eq-WHOLE
returns-then-kind-eq-WHOLE g c =
    let none = g.T.Word.UNWRITTEN in
    let e = code g (goal.at.returns-then-kind-eq-WHOLE g c).After-index-code in
    λ d. c.word.ensures ∙ sym (seen_word none g.row.PAGE _ c.self.inside.codes.items c.self.inside.lone c.self.inside.whole _ _ c.args.word d c.self.view_is c.self.invariant c.requires e ∙ word_whole none g.row.PAGE _ c.self.inside.lone c.self.inside.whole (c.args.word % g.row.PAGE) c.if-kind-eq-WHOLE.true)

pub returns-then-kind-word : goal.returns-then-kind-word
returns-then-kind-word g c =
    let none = g.T.Word.UNWRITTEN in
    let e = code g (goal.at.returns-then-kind-word g c).After-index-code in
    λ d. c.word-then-kind-word.ensures ∙ sym (seen_word none g.row.PAGE _ c.self.inside.codes.items c.self.inside.lone c.self.inside.whole _ _ c.args.word d c.self.view_is c.self.invariant c.requires e ∙ word_lone none g.row.PAGE _ c.self.inside.lone c.self.inside.whole (c.args.word % g.row.PAGE) c.self.invariant.paged.size.some c.if-kind-word.true)

pub returns-else-kind-word : goal.returns-else-kind-word
returns-else-kind-word g c =
    let none = g.T.Word.UNWRITTEN in
    let e = code g (goal.at.returns-else-kind-word g c).After-index-code in
    λ d. c.UNWRITTEN.ensures ∙ sym (seen_word none g.row.PAGE _ c.self.inside.codes.items c.self.inside.lone c.self.inside.whole _ _ c.args.word d c.self.view_is c.self.invariant c.requires e ∙ word_none none g.row.PAGE _ c.self.inside.lone c.self.inside.whole (c.args.word % g.row.PAGE) c.if-kind-eq-WHOLE.false c.if-kind-word.false)
