-- What is given back is at home again.
use Rattle.std.proofs.Common.{◌≡◌, ◌≢◌, ℕ, ◌*◌, ◌<◌, List, [], ◌∷◌, ◌++◌, length, drop, sym, refl, ap, ◌∙◌, arith, Some, None, subst, true, false, true≢false, Bool, ◌&&◌, if◌then◌else◌, nat_eq, nat_le, eq-eqb, ne_eqb}
use Rattle.std.proofs.lemmas.Option.{none-some}
use mathlib.Core.Logic.{dite}
use native.Mathlib.Decide.{ℕ_discrete}
use Rattle.chunk_tags.specs.declared.tunables.Tunables.{Tunables}
use Rattle.arena_core.specs.Journal.{Recorded}
use Rattle.arena_choice.specs.Books as books
use Rattle.arena_choice.specs.Books.{BookValue}
use Rattle.arena_core.specs.KeptArenas.{KeptArena, IsKept}
use Rattle.board_types.specs.Views.{HomeValue, HomesView}
use Rattle.board_types.specs.Homes.{IsAtHome, AreBelow, Grew, in_order, last_line, lines, placed, grown, journal, journal_of, all_by}
use Rattle.board_types.specs.Chains.{bins_of}
use Rattle.board_types.specs.Passes.{book_home}
use Rattle.board_types.proofs.Lists.{Some_inj, length_window, length_drop}

pub bins_ten : (a r : ℕ) (lists : List (List ℕ)) → a < r → length lists ≡ 10 * r → length (bins_of a lists) ≡ 10
bins_ten a r lists l e = length_window 10 (drop (10 * a) lists) (let d = length_drop (10 * a) lists (omega arith) in omega arith)

-- the line of the last entry of a thread, or else the floor
abbrev end_line : ℕ → ℕ → List Recorded → ℕ
end_line n floor [] = floor
end_line n floor (e ∷ es) = if nat_eq e.who.thread n then end_line n e.who.line es else end_line n floor es

end_placed : (n a floor : ℕ) (before xs : List Recorded) → last_line floor (placed n a before xs) ≡ end_line n floor xs
end_placed n a floor before [] = refl
end_placed n a floor before (e ∷ es) = by (nat_eq e.who.thread n) (end_placed n a e.who.line (before ++ e ∷ []) es) (end_placed n a floor (before ++ e ∷ []) es) where
  by : (b : Bool) → last_line e.who.line (placed n a (before ++ e ∷ []) es) ≡ end_line n e.who.line es → last_line floor (placed n a (before ++ e ∷ []) es) ≡ end_line n floor es
      → last_line floor (if b then record { arena = a; before = before; entry = e } ∷ placed n a (before ++ e ∷ []) es else placed n a (before ++ e ∷ []) es) ≡ (if b then end_line n e.who.line es else end_line n floor es)
  by true h g = h
  by false h g = g

both_true : (b c : Bool) → (b && c) ≡ true → (b ≡ true) × (c ≡ true)
both_true true c e = (refl, e)
both_true false c e = absurd (true≢false (sym e))

-- entries behind others are in order from where these end
order_more : (n floor : ℕ) (xs ys : List Recorded) → in_order n floor xs ≡ true → in_order n (end_line n floor xs) ys ≡ true → in_order n floor (xs ++ ys) ≡ true
order_more n floor [] ys h g = g
order_more n floor (e ∷ es) ys h g = by (nat_eq e.who.thread n) h g (λ m f. order_more n e.who.line es ys m f) (λ m f. order_more n floor es ys m f) where
  by : (b : Bool) → (if b then (nat_le floor e.who.line && in_order n e.who.line es) else in_order n floor es) ≡ true → in_order n (if b then end_line n e.who.line es else end_line n floor es) ys ≡ true
      → (in_order n e.who.line es ≡ true → in_order n (end_line n e.who.line es) ys ≡ true → in_order n e.who.line (es ++ ys) ≡ true)
      → (in_order n floor es ≡ true → in_order n (end_line n floor es) ys ≡ true → in_order n floor (es ++ ys) ≡ true)
      → (if b then (nat_le floor e.who.line && in_order n e.who.line (es ++ ys)) else in_order n floor (es ++ ys)) ≡ true
  by true h g more rest = let t = both_true (nat_le floor e.who.line) (in_order n e.who.line es) h in (λ i. t.0 i && more t.1 g i)
  by false h g more rest = rest h g

-- entries of one thread are in order for another
order_others : (p n floor : ℕ) (xs : List Recorded) → n ≢ p → all_by p xs ≡ true → in_order n floor xs ≡ true
order_others p n floor [] ne h = refl
order_others p n floor (e ∷ es) ne h = dite (ℕ_discrete e.who.thread p)
    (λ is. rw (ne_eqb e.who.thread n (λ z. ne (sym z ∙ is))) (order_others p n floor es ne (subst (λ (b : Bool). (if b then all_by p es else false) ≡ true) (eq-eqb e.who.thread p is) h)))
    (λ no. absurd (true≢false (sym (subst (λ (b : Bool). (if b then all_by p es else false) ≡ true) (ne_eqb e.who.thread p no) h))))

-- an arena's record
pub home_again : (t : Tunables) (a : ℕ) (x y : HomeValue) (v : HomesView) (c : KeptArena) → IsAtHome t a x → a < t.records → lines v.number a v.added ≡ placed v.number a [] (journal x) → Grew v.number x y
    → in_order v.number (last_line 0 (lines v.number a v.added)) (grown x y) ≡ true → y.arena ≡ Some c → IsKept t a c → y.book ≡ x.book → length y.fronts ≡ 10 → IsAtHome t a y
home_again t a x y v c h inside listed grew order is_c kept book ten =
    let p = v.number in
    let ends : last_line 0 (lines p a v.added) ≡ end_line p 0 (journal x) = ap (last_line 0) listed ∙ end_placed p a 0 [] (journal x) in record {
      kept = λ k e. subst (IsKept t a) (Some_inj c k (sym is_c ∙ e)) kept;
      lines = λ n. ap (in_order n 0) grew.more ∙ order_more n 0 (journal x) (grown x y) (h.lines n) (dite (ℕ_discrete n p)
          (λ is. subst (λ (m : ℕ). in_order m (end_line m 0 (journal x)) (grown x y) ≡ true) (sym is) (subst (λ (f : ℕ). in_order p f (grown x y) ≡ true) ends order))
          (λ no. order_others p n (end_line n 0 (journal x)) (grown x y) no grew.own));
      sound = λ b e. h.sound b (sym book ∙ e);
      below = λ b e. h.below b (sym book ∙ e);
      no_book = λ l. book ∙ h.no_book l;
      no_arena = λ e. absurd (omega arith);
      ten = λ l. ten;
    }

-- the book's place
pub book_again : (t : Tunables) (y : HomeValue) (b : BookValue) → y ≡ book_home b → books.IsSound b → b.records ≡ t.records → AreBelow t.records b.list × AreBelow t.records b.kept → IsAtHome t t.records y
book_again t y b is sound records below =
    let bare : y.arena ≡ None = ap (λ (z : HomeValue). z.arena) is in
    let same : (c : BookValue) → y.book ≡ Some c → b ≡ c = (λ c e. Some_inj b c (sym (ap (λ (z : HomeValue). z.book) is) ∙ e)) in record {
      kept = λ k e. absurd (none-some k (sym bare ∙ e));
      lines = λ n. ap (λ o. in_order n 0 (journal_of o)) bare;
      sound = λ c e. subst (λ (d : BookValue). books.IsSound d × (d.records ≡ t.records)) (same c e) (sound, records);
      below = λ c e. subst (λ (d : BookValue). AreBelow t.records d.list × AreBelow t.records d.kept) (same c e) below;
      no_book = λ l. absurd (omega arith);
      no_arena = λ e. bare;
      ten = λ l. absurd (omega arith);
    }
