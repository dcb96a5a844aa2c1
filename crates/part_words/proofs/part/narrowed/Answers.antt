use Rattle.std.proofs.Common.{◌≡◌, ℕ, ◌<◌, ◌≤◌, ◌+◌, ◌%◌, length, sym, ap, ◌∙◌, inl, inr, arith}
use Rattle.std.proofs.lemmas.Bool.{cases_eq, cases_lt}
use Rattle.part_words.specs.Pages.{slots, whole_slot}
use Rattle.part_words.specs.Slots.{word_in}
use Rattle.part_words.proofs.CodeLaws.{whole_some}
use Rattle.part_words.proofs.PageLaws.{whole_own}
use Rattle.part_words.proofs.PoolLaws.{IsOwn, own_set, may_give}
use Rattle.part_words.proofs.Recoding.{Narrows, narrows_lone}
use Rattle.part_words.proofs.part.narrowed.Goals as goal
use Rattle.part_words.proofs.part.narrowed.Goals.{Start, After-begun}

own : (g : _) → (c : Start g) → IsOwn (c.args.code % slots) c.args.whole.now
own g c = whole_own c.args.whole.now c.args.code c.requires.whole c.requires.kind

room : (g : _) → (c : Start g) → length c.args.whole.now.free < c.args.whole.now.room
room g c = may_give (whole_slot c.args.code) (c.args.code % slots) c.args.whole.now c.requires.whole (whole_some c.args.code c.requires.kind)

-- no word is written but one, where none is before it and none behind
but_one : {T : Type 0} (none : T) (page : ℕ) (word : ℕ → T) (first next : ℕ) → ((x : ℕ) → 0 ≤ x → x < first → word x ≡ none) → ((x : ℕ) → first + 1 ≤ x → x < next → word x ≡ none) → page ≤ next → (x : ℕ) → x < page → (x ≡ first → ⊥) → word x ≡ none
but_one none page word first next before behind past x within other =
    elim (cases_lt x first) [
      | inl lt ↦ before x (omega arith) lt
      | inr le ↦ behind x (omega (arith, le, other)) (omega (arith, within, past))
    ]

pub first_written-first-requires : goal.first_written-first-requires
first_written-first-requires g c =
    (omega arith, ((own g (goal.at.first_written-first-requires g c).Start).there, omega arith))

pub first_written-requires : goal.first_written-requires
first_written-requires g c =
    (omega arith, ((own g (goal.at.first_written-requires g c).Start).there, omega (arith, c.first_written-first.ensures.within, c.if-first.false)))

pub give-requires : goal.give-requires
give-requires g c =
    let b = (goal.at.give-requires g c).Start in
    let h = own g b in
    (omega arith, (omega arith, (h.there, (h.once, ((λ x lt. c.first_written-first.ensures.before x (omega arith) (omega (arith, lt, c.if-first.true))), room g b)))))

pub word-value-requires : goal.word-value-requires
word-value-requires g c =
    (omega arith, ((own g (goal.at.word-value-requires g c).Start).there, omega (arith, c.first_written-first.ensures.within, c.if-first.false)))

pub set_word-requires : goal.set_word-requires
set_word-requires g c =
    let h = own g (goal.at.set_word-requires g c).Start in
    (omega arith, (h.there, (omega (arith, c.first_written-first.ensures.within, c.if-first.false), h.once)))

pub give-requires-2 : goal.give-requires-2
give-requires-2 g c =
    let none = g.T.Word.UNWRITTEN in
    let b = (goal.at.give-requires-2 g c).Start in
    let first = c.first_written-first.result in
    let s = c.set_word.ensures in
    let h = own_set none g.row.PAGE (c.args.code % slots) (c.args.code % slots) first _ c.args.whole.now c.set_word.new.self (own g b) s in
    let clear = but_one none g.row.PAGE (word_in none g.row.PAGE c.args.whole.now.words (c.args.code % slots)) first c.first_written.result c.first_written-first.ensures.before c.first_written.ensures.before c.if-first_written.false in (
      omega arith,
      (
        omega arith,
        (
          h.there,
          (
            h.once,
            (
              (λ x lt. elim (cases_eq x first) [
                | inl e ↦ rw e (s.here ∙ c.UNWRITTEN.ensures)
                | inr other ↦ s.others (c.args.code % slots) x lt (λ same. other) ∙ clear x lt other
              ]),
              omega (arith, room g b, ap length s.free, s.room),
            ),
          ),
        ),
      ),
    )

narrows : (g : _) → (c : After-begun g) → Narrows g.T.Word.UNWRITTEN g.row.PAGE c.args.code c.args.lone.now c.args.whole.now c.begun.result c.begun.new.lone c.give-2.new.self
narrows g c =
    let none = g.T.Word.UNWRITTEN in
    let first = c.first_written-first.result in
    let clear = but_one none g.row.PAGE (word_in none g.row.PAGE c.args.whole.now.words (c.args.code % slots)) first c.first_written.result c.first_written-first.ensures.before c.first_written.ensures.before c.if-first_written.false in
    narrows_lone none g.row.PAGE c.args.code c.begun.result c.args.lone.now c.args.whole.now c.set_word.new.self c.begun.new.lone c.give-2.new.self first c.word-value.result c.requires.page.some (omega (arith, c.first_written-first.ensures.within, c.if-first.false)) c.requires.kind clear c.word-value.ensures (λ e. c.first_written-first.ensures.written (omega (arith, c.first_written-first.ensures.within, c.if-first.false)) (sym c.word-value.ensures ∙ e)) (rw c.UNWRITTEN.ensures at c.set_word.ensures) c.give-2.ensures c.begun.ensures.kind c.begun.ensures.trades c.begun.ensures.word

pub returns-clause-recodes : goal.returns-clause-recodes
returns-clause-recodes g c = (narrows g (goal.at.returns-clause-recodes g c).After-begun).recodes

pub returns-clause-words : goal.returns-clause-words
returns-clause-words g c = (narrows g (goal.at.returns-clause-words g c).After-begun).words
