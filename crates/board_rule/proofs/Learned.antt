-- What a try tells.
use Rattle.std.proofs.Common.{◌≡◌, ℕ, zero, suc, ◌+◌, ◌<◌, ◌≤◌, List, [], ◌∷◌, length, get_or, sym, refl, ap, ◌∙◌, arith, Option as Maybe, Some, None, true, false, true≢false, Bool, ◌&&◌, ◌||◌, if◌then◌else◌, nat_eq, eq-eqb, ne_eqb}
use Rattle.std.specs.Prelude.{is_some}
use mathlib.Core.Logic.{dite}
use native.Mathlib.Decide.{ℕ_discrete, dec_le}
use mathlib.Core.Option.{some, some-injective, some-ne-none}
use lib.ListN.{get_elem?}
use Rattle.chunk_tags.specs.declared.block.Block.{Block}
use Rattle.chunk_tags.specs.declared.tiles.Chunk.{Chunk}
use Rattle.chunk_tags.specs.declared.tunables.Tunables.{Tunables}
use Rattle.arena_choice.specs.Books as books
use Rattle.arena_choice.specs.Books.{BookValue}
use Rattle.arena_choice.specs.Numbers.{has, Apart}
use Rattle.arena_core.specs.KeptArenas.{KeptArena}
use Rattle.board_types.specs.Views.{ViewValue, HomeValue, HomesView, Added, Own}
use Rattle.board_types.specs.Weights.{weigh, times}
use Rattle.board_types.specs.Homes.{Lines, BookTies, AreAtHome, AreListed, list_of, kept_numbers, owns, stores, lines, placed, journal_of, speaks, no_home}
use Rattle.board_types.specs.Places.{Places, Sight, times_in, used_in, used_of, used_at, has as has_it, pends, as_chunk_of}
use Rattle.board_types.specs.Trays.{Tray}
use Rattle.board_types.specs.Plays.{is_known, in_some, of_arena, added_to}
use Rattle.board_types.proofs.Lists.{There}
use Rattle.board_types.proofs.Weigh.{weigh_at}
use Rattle.board_rule.proofs.Within.{first_there}
use Rattle.board_types.specs.Views.{hold_of}

abbrev one_if : Bool → ℕ
one_if b = if b then 1 else 0

-- ---- how often a number stands in a list

pub times_has : (n : ℕ) (xs : List ℕ) → has n xs ≡ true → 0 < times n xs
times_has n [] e = absurd (true≢false (sym e))
times_has n (x ∷ xs) e = by (nat_eq x n) e (times_has n xs) where
  by : (b : Bool) → (b || has n xs) ≡ true → (has n xs ≡ true → 0 < times n xs) → 0 < (if b then 1 else 0) + times n xs
  by true e more = omega arith
  by false e more = let m = more e in omega arith

pub has_times : (n : ℕ) (xs : List ℕ) → 0 < times n xs → has n xs ≡ true
has_times n [] l = absurd (omega arith)
has_times n (x ∷ xs) l = by (nat_eq x n) l (has_times n xs) where
  by : (b : Bool) → 0 < (if b then 1 else 0) + times n xs → (0 < times n xs → has n xs ≡ true) → (b || has n xs) ≡ true
  by true l more = refl
  by false l more = more (omega arith)

pub times_none : (n : ℕ) (xs : List ℕ) → has n xs ≡ false → times n xs ≡ 0
times_none n xs e = dite (dec_le 1 (times n xs)) (λ l. absurd (true≢false (sym (has_times n xs l) ∙ e))) (λ nl. omega arith)

pub apart_times : (n : ℕ) (xs : List ℕ) → Apart xs → times n xs ≤ 1
apart_times n [] h = omega arith
apart_times n (x ∷ xs) h = dite (ℕ_discrete x n)
    (λ is. let z : times n xs ≡ 0 = times_none n xs (ap (λ (m : ℕ). has m xs) (sym is) ∙ h.0) in let o : one_if (nat_eq x n) ≡ 1 = ap one_if (eq-eqb x n is) in omega arith)
    (λ ne. let o : one_if (nat_eq x n) ≡ 0 = ap one_if (ne_eqb x n ne) in let r = apart_times n xs h.1 in omega arith)

module _ {A : Type 0} where
  -- where one weight is at most another, so are the sums, and they differ by more than they do at one place
  weigh_less : (f g : A → ℕ) (xs : List A) → ((x : A) → f x ≤ g x) → weigh f xs ≤ weigh g xs
  weigh_less f g [] le = omega arith
  weigh_less f g (x ∷ xs) le = let a = le x in let b = weigh_less f g xs le in omega arith

  weigh_apart : (f g : A → ℕ) (xs : List A) (p : ℕ) (v : A) → ((x : A) → f x ≤ g x) → get_elem? xs p ≡ some v → weigh f xs + g v ≤ weigh g xs + f v
  weigh_apart f g [] p v le e = absurd (some-ne-none v (sym e))
  weigh_apart f g (x ∷ xs) zero v le e = let a : f x ≡ f v = ap f (some-injective x v e) in let b : g x ≡ g v = ap g (some-injective x v e) in let c = weigh_less f g xs le in omega arith
  weigh_apart f g (x ∷ xs) (suc p) v le e = let a = le x in let b = weigh_apart f g xs p v le e in omega arith

  weigh_zero : (f : A → ℕ) (xs : List A) → ((i : ℕ) (x : A) → get_elem? xs i ≡ some x → f x ≡ 0) → weigh f xs ≡ 0
  weigh_zero f [] h = refl
  weigh_zero f (x ∷ xs) h = let a = h 0 x refl in let b = weigh_zero f xs (λ i y e. h (suc i) y e) in omega arith

  none_by : (o : Maybe A) → is_some o ≡ false → o ≡ None
  none_by None e = refl
  none_by (Some x) e = absurd (true≢false e)

  get_here : (xs : List A) (k : ℕ) (x d : A) → get_elem? xs k ≡ some x → get_or xs k d ≡ x
  get_here [] k x d e = absurd (some-ne-none x (sym e))
  get_here (y ∷ ys) zero x d e = some-injective y x e
  get_here (y ∷ ys) (suc k) x d e = get_here ys k x d e

some_by : (b : Bool) (n : ℕ) → one_if b ≡ n → 0 < n → b ≡ true
some_by true n e l = refl
some_by false n e l = absurd (omega arith)

none_for : (b : Bool) (n : ℕ) → one_if b ≡ n → n ≡ 0 → b ≡ false
none_for false n e l = refl
none_for true n e l = absurd (omega arith)

pub used_is : (last : List HomeValue) (a : ℕ) (x : HomeValue) (c : Chunk) → get_elem? last a ≡ some x → used_at last a c ≡ used_in x c
used_is last a x c e = ap (λ (z : HomeValue). used_in z c) (get_here last a x no_home e)

-- ---- its blocks are used: nobody holds the arena

pub mine_used : (last : List HomeValue) (chains own : List (List ℕ)) (trays : List Tray) (views : List Sight) (p a : ℕ) (v : Sight) → Places last chains own trays views → get_elem? views p ≡ some v
    → ((q : ℕ) (u : Sight) (z : HomeValue) → get_elem? views q ≡ some u → u.holds ≡ Some (hold_of a z) → ⊥) → (c : Chunk) → times_in a c v.places.mine ≤ used_at last a c
mine_used last chains own trays views p a v h at unheld c =
    let none_pends : weigh (pends a c) views ≡ 0 = weigh_zero (pends a c) views (λ q u e. dite (dec_le 1 (pends a c u)) (λ l. let held = h.pending q a c u e l in absurd (unheld q u held.0 e held.1)) (λ nl. omega arith)) in
    let w = weigh_at (has_it a c) views p v at in
    let o = h.one_place a c in
    omega arith

-- ---- an arena that it knows is there

listed_there : (r : ℕ) (last : List HomeValue) (views : List HomesView) (a : ℕ) (x y : HomeValue) → BookTies r last views → a < r → get_elem? last a ≡ some x → get_elem? last r ≡ some y → 0 < times a (list_of y.book) → is_some x.arena ≡ true
listed_there r last views a x y h l here book some_there = let o = h.there a x y l here book in some_by (is_some x.arena) (times a (list_of y.book) + weigh (λ v. stores a v.own) views) o (omega arith)

in_list : (a : ℕ) (list : List ℕ) (ls : List (List ℕ)) → AreListed list ls → in_some a ls ≡ true → has a list ≡ true
in_list a list [] h e = absurd (true≢false (sym e))
in_list a list (l ∷ ls) h e = by (has a l) refl e (in_list a list ls h.1) where
  by : (b : Bool) → has a l ≡ b → (b || in_some a ls) ≡ true → (in_some a ls ≡ true → has a list ≡ true) → has a list ≡ true
  by true is e more = h.0 a is
  by false is e more = more e

used_there : (x : HomeValue) (c : Chunk) → 0 < used_in x c → is_some x.arena ≡ true
used_there x c l = by x.arena l where
  by : (o : Maybe KeptArena) → 0 < used_of o c → is_some o ≡ true
  by None l = absurd (omega arith)
  by (Some k) l = refl

abbrev is_of : ℕ → Block → Bool
is_of n b = elim b.arena [ None ↦ false | Some m ↦ nat_eq m n ]

chunk_in : (a : ℕ) (bs : List Block) → of_arena a bs ≡ true → (c : Chunk) × (0 < times_in a c bs)
chunk_in a [] e = absurd (true≢false (sym e))
chunk_in a (b ∷ bs) e = by (is_of a b) refl e (chunk_in a bs) where
  by : (t : Bool) → is_of a b ≡ t → (t || of_arena a bs) ≡ true → (of_arena a bs ≡ true → (c : Chunk) × (0 < times_in a c bs)) → (c : Chunk) × (0 < times_in a c (b ∷ bs))
  by true is e more = let c : Chunk = record { at = b.addr; size = b.size } in
      (c, (let z : as_chunk_of a c b ≡ 1 = rw (eq-eqb b.addr b.addr refl, eq-eqb b.size b.size refl) (ap one_if is) in omega arith))
  by false is e more = let m = more e in (m.0, (let l = m.1 in omega arith))

-- an entry of some thread is listed there
entry_in : (a : ℕ) (xs : List Added) → added_to a xs ≡ true → (n : ℕ) × (0 < length (lines n a xs))
entry_in a [] e = absurd (true≢false (sym e))
entry_in a (x ∷ xs) e = by (nat_eq x.arena a) refl e (entry_in a xs) where
  more_lines : (n : ℕ) (b c : Bool) → length (lines n a xs) ≤ length (if b then (if c then x ∷ lines n a xs else lines n a xs) else lines n a xs)
  more_lines n true true = omega arith
  more_lines n true false = omega arith
  more_lines n false c = omega arith

  by : (t : Bool) → nat_eq x.arena a ≡ t → (t || added_to a xs) ≡ true → (added_to a xs ≡ true → (n : ℕ) × (0 < length (lines n a xs))) → (n : ℕ) × (0 < length (lines n a (x ∷ xs)))
  by true is e more = (x.entry.who.thread, rw (is, eq-eqb x.entry.who.thread x.entry.who.thread refl) (omega arith))
  by false is e more = let m = more e in (m.0, (let l = m.1 in let g = more_lines m.0 (nat_eq x.arena a) (nat_eq x.entry.who.thread m.0) in omega arith))

added_there : (last : List HomeValue) (views : List HomesView) (p a : ℕ) (x : HomeValue) (v : HomesView) → Lines last views → get_elem? views p ≡ some v → get_elem? last a ≡ some x → added_to a v.added ≡ true → is_some x.arena ≡ true
added_there last views p a x v h at here e = by (is_some x.arena) refl where
  by : (b : Bool) → is_some x.arena ≡ b → is_some x.arena ≡ true
  by true is = is
  by false is = let m = entry_in a v.added e in let n = m.0 in absurd (let l = m.1 in
      let empty : lines n a v.added ≡ [] = dite (dec_le 1 (speaks n v)) (λ s. h.listed p n a x v at s here ∙ ap (λ o. placed n a [] (journal_of o)) (none_by x.arena is)) (λ ns. h.others p n a v at (omega arith)) in
      let z : length (lines n a v.added) ≡ 0 = ap length empty in omega arith)

-- of the book at home
book_is : (t : Tunables) (last : List HomeValue) (views : List HomesView) (y : HomeValue) → BookTies t.records last views → AreAtHome t last → get_elem? last t.records ≡ some y → (b : BookValue) × (y.book ≡ Some b) × books.IsSound b
book_is t last views y ties home e = by y.book refl (ties.book y e) where
  by : (o : Maybe BookValue) → y.book ≡ o → is_some o ≡ true → (b : BookValue) × (y.book ≡ Some b) × books.IsSound b
  by None is l = absurd (true≢false (sym l))
  by (Some b) is l = (b, is, ((home.each t.records y e).sound b is).0)

pub known_there : (t : Tunables) (last : List HomeValue) (views : List HomesView) (p a : ℕ) (x : HomeValue) (v : ViewValue) → Lines last views → BookTies t.records last views → AreAtHome t last → a < t.records → get_elem? views p ≡ some v.homes
    → get_elem? last a ≡ some x → There last t.records → ((c : Chunk) → times_in a c v.places.mine ≤ used_in x c) → is_known v a ≡ true → is_some x.arena ≡ true
known_there t last views p a x v lines_h ties home l at here book mine known = by0 (nat_eq a 0) refl known where
  y : HomeValue
  y = book.0

  in_book : has a (list_of y.book) ≡ true → is_some x.arena ≡ true
  in_book e = listed_there t.records last views a x y ties l here book.1 (times_has a (list_of y.book) e)

  by3 : added_to a v.homes.added ≡ true → is_some x.arena ≡ true
  by3 e = added_there last views p a x v.homes lines_h at here e

  by2 : (b : Bool) → of_arena a v.places.mine ≡ b → (b || added_to a v.homes.added) ≡ true → is_some x.arena ≡ true
  by2 true is e = let m = chunk_in a v.places.mine is in used_there x m.0 (let s = mine m.0 in let q = m.1 in omega arith)
  by2 false is e = by3 e

  by1 : (b : Bool) → in_some a v.homes.lists ≡ b → (b || (of_arena a v.places.mine || added_to a v.homes.added)) ≡ true → is_some x.arena ≡ true
  by1 true is e = in_book (in_list a (list_of y.book) v.homes.lists (ties.lists p v.homes y at book.1) is)
  by1 false is e = by2 (of_arena a v.places.mine) refl e

  by0 : (b : Bool) → nat_eq a 0 ≡ b → (b || (in_some a v.homes.lists || (of_arena a v.places.mine || added_to a v.homes.added))) ≡ true → is_some x.arena ≡ true
  by0 true is e = dite (ℕ_discrete a 0)
      (λ z. let b = book_is t last views y ties home book.1 in in_book (ap (λ (m : ℕ). has m (list_of y.book)) z ∙ (ap (λ o. has 0 (list_of o)) b.1 ∙ first_there b.0.list b.2.main)))
      (λ ne. absurd (true≢false (sym is ∙ ne_eqb a 0 ne)))
  by0 false is e = by1 (in_some a v.homes.lists) refl e

-- ---- an own number that isn't stored has no arena

pub stored_owned : (n : ℕ) (os : List Own) → stores n os ≤ owns n os
stored_owned n [] = omega arith
stored_owned n (o ∷ os) = by (nat_eq o.number n) o.stored (stored_owned n os) where
  by : (b c : Bool) → stores n os ≤ owns n os → one_if (b && c) + stores n os ≤ one_if b + owns n os
  by true true le = omega arith
  by true false le = omega arith
  by false c le = omega arith

pub new_there : (t : Tunables) (last : List HomeValue) (views : List HomesView) (p a : ℕ) (x : HomeValue) (v : HomesView) → BookTies t.records last views → AreAtHome t last → a < t.records → get_elem? views p ≡ some v
    → get_elem? last a ≡ some x → There last t.records → 0 < owns a v.own → stores a v.own ≡ 0 → x.arena ≡ None
new_there t last views p a x v ties home l at here book own none_stored =
    let y = book.0 in
    let b = book_is t last views y ties home book.1 in
    let kept = ties.kept a y book.1 in
    let kept_is : times a (kept_numbers y.book) ≡ times a b.0.kept = ap (λ o. times a (kept_numbers o)) b.1 in
    let list_is : times a (list_of y.book) ≡ times a b.0.list = ap (λ o. times a (list_of o)) b.1 in
    let some_own = weigh_at (λ (u : HomesView). owns a u.own) views p v at in
    let once = apart_times a b.0.kept b.2.kept in
    let outside : times a b.0.list ≡ 0 = times_none a b.0.list (b.2.outside a (has_times a b.0.kept (omega arith))) in
    let apart = weigh_apart (λ (u : HomesView). stores a u.own) (λ (u : HomesView). owns a u.own) views p v (λ u. stored_owned a u.own) at in
    let o = ties.there a x y l here book.1 in
    none_by x.arena (none_for (is_some x.arena) (times a (list_of y.book) + weigh (λ (u : HomesView). stores a u.own) views) o (omega arith))
