-- What the steps on a lock word ask of the table, and how a pass is made and ends.
use Rattle.std.proofs.Common.{◌≡◌, ◌≢◌, ℕ, zero, suc, ◌+◌, ◌*◌, ◌-◌, ◌<◌, ◌≤◌, eqb, List, [], ◌∷◌, ◌++◌, map, length, get_or, set, drop, sym, refl, ap, ◌∙◌, arith, Some, None, subst, true, false, length-set, length-append, eq-eqb, ne_eqb, ⊎_elim}
use Rattle.std.proofs.lemmas.List.{map-set, map-append}
use mathlib.Core.Option.{none, some, some-injective, some-ne-none}
use lib.ListN.{get_elem?}
use lib.Seq.{set-get_or}
use prog.Atomic.{either}
use Rattle.atomic_table.specs.Table.{State, Me, Act, Step, step, keeps, takes, gives, stepped, Allows, Splits, Valid, carried_after}
use Rattle.atomic_table.proofs.Lists.{exchanged, at_map, set_again}
use Rattle.board_types.specs.declared.layout.Fixed.{Fixed}
use Rattle.board_types.specs.declared.slot.Slot.{Slot}
use Rattle.arena_core.specs.KeptArenas.{KeptArena, IsKept}
use Rattle.board_types.specs.Layouts.{window, locks_at, heads_at, links_at, link_words}
use Rattle.board_types.specs.Views.{ViewValue, HomeValue, HomesView}
use Rattle.board_types.specs.Weights.{times}
use Rattle.board_types.specs.Homes.{owns, Homes, home_in, IsAtHome, AreBelow, Comes, in_order, last_line, grown, Grew, journal, lines, placed, speaks, no_home, BookBack}
use Rattle.board_types.specs.Chains.{Chains, bins_of, front}
use Rattle.board_types.specs.Trays.{Trays}
use Rattle.board_types.specs.Dials.{Dials}
use Rattle.board_types.specs.Places.{Places, Sight, KeepsOthers, used_of, times_in}
use Rattle.board_types.specs.Law.{Plain, Stands, Lawful, homes_of, trays_of, dials_of, chains_of, places_of, newcomer, enroller}
use Rattle.board_types.specs.Plays.{given_home, Tries, Frees, Ends, holding, tried, released, was, ended, home_of, IsLearned, GivesBack, GivesBook, FreesBook, released_book}
use Rattle.board_types.proofs.Lists.{there, inside, at_map_back, window_get, window_or, length_window, length_drop, at_end}
use Rattle.board_types.specs.Passes.{book_home}
use Rattle.arena_choice.specs.Books.{BookValue}
use Rattle.std.specs.Prelude.{is_some}
use Rattle.board_homes.proofs.BackHome.{home_again, book_again, bins_ten}
use Rattle.board_rule.proofs.Starts.{same_count}
use Rattle.board_rule.proofs.Learned.{mine_used, known_there, new_there, used_is}
use Rattle.board_types.proofs.Weigh.{weigh_at}
use Rattle.board_types.specs.Views.{hold_of}
use Rattle.board_homes.proofs.HomesSteps.{homes_lock, homes_unlock, homes_enroll, homes_end, homes_book}
use Rattle.board_chains.proofs.ChainHolds.{chains_lock, chains_unlock, chains_newcomer, chains_book}
use Rattle.board_places.proofs.PlaceHolds.{places_lock, places_unlock, places_newcomer, places_book}
use Rattle.board_trays.proofs.Newcomers.{trays_newcomer, dials_newcomer}
use Rattle.board_rule.proofs.Frames.{lock_frame, still_frame, fields_more, fixed_stay, spent_stay}

-- the pass of a seat goes on, and holds nothing
pub record Idles (v : ViewValue) (n : ℕ) : Type 0 where
  pub live : v.homes.live ≡ true
  pub going : v.homes.retired ≡ false
  pub number : v.homes.number ≡ n
  pub speaks : v.homes.speaks ≡ n ∷ []
  pub free : v.homes.holds ≡ None

pub home_back : (a : ℕ) → home_of (locks_at + a) ≡ a
home_back a = let z : 64 + a - 64 ≡ a = omega arith in z

at_or : {A : Type 0} (xs : List A) (k : ℕ) (x d : A) → get_elem? xs k ≡ some x → get_or xs k d ≡ x
at_or [] k x d e = absurd (some-ne-none x (sym e))
at_or (y ∷ ys) zero x d e = some-injective y x e
at_or (y ∷ ys) (suc k) x d e = at_or ys k x d e

-- the locks, and the home slots, are as many
lock_count : (k : Fixed) (s : State Slot ViewValue) (b : Plain) → Stands k s b → length (window locks_at (k.layout.records + 1) s.words) ≡ k.layout.records + 1
lock_count k s b st = length_window (k.layout.records + 1) (drop locks_at s.words) (let d = length_drop locks_at s.words (let w = st.wide.0 in omega arith) in let w = st.wide.0 in omega arith)

slot_count : (k : Fixed) (s : State Slot ViewValue) (b : Plain) → Stands k s b → length (window 0 (k.layout.records + 1) s.homes) ≡ k.layout.records + 1
slot_count k s b st = length_window (k.layout.records + 1) (drop 0 s.homes) (let d = length_drop 0 s.homes (omega arith) in let w = st.wide.1 in omega arith)

-- what holds after the lock word was found as n and left as m
abbrev Done : Fixed → State Slot ViewValue → ℕ → ℕ → ViewValue → ℕ → Step Slot → ℕ → Type 0
Done k s id a v n st m = (w : ViewValue) × (act : Act Slot) × Valid s.homes [] act × Lawful k (stepped s (locks_at + a) m id [] w act) × Tries st (v, []) n (w, carried_after [] act)

-- what a try tells, of the home a
abbrev Told : ViewValue → ℕ → ℕ → Me Slot ViewValue → Type 0
Told v found a m' = (found ≡ 0 → (s : Slot) × (ls : List (List ℕ)) × IsLearned v a (home_in s) × (a < v.fixed.layout.records → (map front ls ≡ (home_in s).fronts) × (length (map front ls) ≡ 10)) × (m' ≡ (holding v a (home_in s) ls, (a, s) ∷ [])))
    × (found ≢ 0 → m' ≡ (tried v a found, []))

tries_hit : (k : Fixed) (s : State Slot ViewValue) (slots id a number : ℕ) (v : ViewValue) → Lawful k s → a < k.layout.records + 1 → get_elem? s.views id ≡ some v → Idles v number
    → get_or s.words (locks_at + a) 0 ≡ 0 → Done k s id a v (get_or s.words (locks_at + a) 0) (step slots (locks_at + a) 0 (number + 1) none) (number + 1)
tries_hit k s slots id a number v law in_k at idle zero_there =
    let b = law.0 in
    let st = law.1 in
    let r = k.layout.records in
    let locks = window locks_at (r + 1) s.words in
    let heads = st.homes.held in
    let x0 = there b.last a (subst (λ (n : ℕ). a < n) (sym st.counts.0) in_k) in
    let mine = at_map homes_of s.views id v at in
    let me : id ≡ number = sym (heads.numbers id v.homes mine idle.live).0 ∙ idle.number in
    let word : get_or locks a 0 ≡ 0 = window_or locks_at (r + 1) a s.words in_k ∙ zero_there in
    let lies = heads.at_home a x0.0 x0.1 word in
    let slot = lies.0 in
    let x = home_in slot in
    let here : get_elem? b.last a ≡ some x = x0.1 ∙ ap some (sym lies.2) in
    let ls = bins_of a b.own in
    let w = holding v a x ls in
    let in_locks : a < length locks = subst (λ (n : ℕ). a < n) (sym (lock_count k s b st)) in_k in
    let homes = homes_lock k.tunables b.last locks _ (map homes_of s.views) id a x v.homes st.homes in_locks mine idle.free idle.going here word in
    let chains = chains_lock k.layout b.chains b.own b.last locks _ _ (map chains_of s.views) id a x (chains_of v) st.chains in_locks (at_map chains_of s.views id v at) idle.free in
    let places = places_lock b.last b.chains b.own b.trays (map places_of s.views) id a x (places_of v) st.places (at_map places_of s.views id v at) idle.free in
    let fix : v.fixed ≡ k = st.fixed id v at idle.live in
    let unheld : (q : ℕ) (u : Sight) (z : HomeValue) → get_elem? (map places_of s.views) q ≡ some u → u.holds ≡ Some (hold_of a z) → ⊥ = (λ q u z e h. let m = at_map_back places_of s.views q u e in
    let o = heads.holders q a z m.0.homes (at_map homes_of s.views q m.0 m.1) (sym (ap (λ (i : Sight). i.holds) m.2) ∙ h) in let f : q + 1 ≡ 0 = sym o.0 ∙ word in absurd (omega arith)) in
    let book_there = there b.last k.tunables.records (let e = st.records in let c = st.counts.0 in omega arith) in
    let of_t : a < v.fixed.tunables.records → a < k.tunables.records = (λ l. subst (λ (f : Fixed). a < f.tunables.records) fix l) in
    let is_book : a ≡ v.fixed.tunables.records → get_elem? b.last k.tunables.records ≡ some x = (λ e. ap (get_elem? b.last) (sym (e ∙ ap (λ (f : Fixed). f.tunables.records) fix)) ∙ here) in
    let learned : IsLearned v a x = record {
      at_home = subst (λ (f : Fixed). IsAtHome f.tunables a x) (sym fix) (st.homes.at_home.each a x here);
      book = λ e. st.homes.ties.book x (ap (get_elem? b.last) (sym (e ∙ ap (λ (f : Fixed). f.tunables.records) fix)) ∙ here);
      listed = st.homes.lines.listed id v.homes.number a x v.homes mine (let one : speaks number v.homes ≡ 1 = ap {B = ℕ} (λ (l : List ℕ). times number l) idle.speaks ∙ rw (eq-eqb number number refl) refl in subst (λ (n : ℕ). 0 < speaks n v.homes) (sym idle.number) (omega arith)) here;
      mine = λ c. subst (λ (n : ℕ). times_in a c v.places.mine ≤ n) (used_is b.last a x c here) (mine_used b.last b.chains b.own b.trays (map places_of s.views) id a (places_of v) st.places (at_map places_of s.views id v at) unheld c);
      there = λ l e. known_there k.tunables b.last (map homes_of s.views) id a x v st.homes.lines st.homes.ties st.homes.at_home (of_t l) mine here book_there
          (λ c. subst (λ (n : ℕ). times_in a c v.places.mine ≤ n) (used_is b.last a x c here) (mine_used b.last b.chains b.own b.trays (map places_of s.views) id a (places_of v) st.places (at_map places_of s.views id v at) unheld c)) e;
      new = λ l o e. new_there k.tunables b.last (map homes_of s.views) id a x v.homes st.homes.ties st.homes.at_home (of_t l) mine here book_there o e;
      own = λ e n. let h = st.homes.ties.kept n x (is_book e) in let w = weigh_at (λ (u : HomesView). owns n u.own) (map homes_of s.views) id v.homes mine in omega arith;
      lists = λ e. st.homes.ties.lists id v.homes x mine (is_book e);
    } in
    let told : Told v (get_or s.words (locks_at + a) 0) a (w, (a, slot) ∷ []) = ((λ z. (slot, ls, learned, (λ l. let e = st.chains.fronts a x (subst (λ (f : Fixed). a < f.layout.records) fix l) here word in (e, ap length e ∙ (st.homes.at_home.each a x here).ten (let q = st.records in let i : a < r = subst (λ (f : Fixed). a < f.layout.records) fix l in omega arith))), refl)), (λ ne. absurd (ne zero_there))) in (
      w,
      takes a slot,
      window_get (r + 1) s.homes a (some slot) lies.1,
      (
        record b { last = b.last },
        subst (λ (n : ℕ). Stands k record { words = set s.words (locks_at + a) (n + 1); homes = set s.homes a none; views = set s.views id w } (record b { last = b.last })) me
            (lock_frame k s b a (id + 1) id v w b.last none st in_k at idle.live refl refl refl refl refl refl homes chains places),
      ),
      subst (λ (n : ℕ). Told v (get_or s.words (locks_at + a) 0) n (w, (a, slot) ∷ [])) (sym (home_back a)) told,
    )

tries_miss : (k : Fixed) (s : State Slot ViewValue) (slots id a number : ℕ) (v : ViewValue) → Lawful k s → get_elem? s.views id ≡ some v → v.homes.live ≡ true
    → get_or s.words (locks_at + a) 0 ≢ 0 → Done k s id a v (get_or s.words (locks_at + a) 0) (step slots (locks_at + a) 0 (number + 1) none) (get_or s.words (locks_at + a) 0)
tries_miss k s slots id a number v law at live taken = let i : ℕ = locks_at + a in let w = tried v (home_of i) (get_or s.words i 0) in (
  w,
  keeps,
  tt,
  subst (λ (ws : List ℕ). Lawful k record { words = ws; homes = s.homes; views = set s.views id w }) (sym (set-get_or s.words i 0))
      (law.0, still_frame k s law.0 id v w law.1 at live refl refl refl refl refl refl refl (subst (Homes k.tunables law.0.last _ _) (sym (set_again (map homes_of s.views) id v.homes (at_map homes_of s.views id v at))) law.1.homes)),
  ((λ z. absurd (taken z)), (λ ne. refl)),
)

pub try_locks : (k : Fixed) (slots id a number : ℕ) (me : Me Slot ViewValue) → a < k.layout.records + 1 → me.1 ≡ [] → Idles me.0 number
    → Allows (Lawful k) slots id me (locks_at + a) (λ n. either (eqb n 0) (number + 1) n) (Tries (step slots (locks_at + a) 0 (number + 1) none) me)
try_locks k slots id a number me in_k none_held idle = subst (λ (c : List (ℕ × Slot)). Allows (Lawful k) slots id (me.0, c) (locks_at + a) (λ n. either (eqb n 0) (number + 1) n) (Tries (step slots (locks_at + a) 0 (number + 1) none) (me.0, c))) (sym none_held)
    (λ s law long at fits. exchanged (get_or s.words (locks_at + a) 0) 0 (number + 1) (Done k s id a me.0 (get_or s.words (locks_at + a) 0) (step slots (locks_at + a) 0 (number + 1) none))
    (λ z. tries_hit k s slots id a number me.0 law in_k at idle z)
    (λ ne. tries_miss k s slots id a number me.0 law at idle.live ne))

-- ---- an arena is given back

pub frees_lawful : (k : Fixed) (s : State Slot ViewValue) (id a number : ℕ) (v : ViewValue) (slot : Slot) (c : KeptArena) → Lawful k s → a < k.layout.records → get_elem? s.views id ≡ some v
    → v.homes.live ≡ true → v.homes.retired ≡ false → v.homes.number ≡ number → v.homes.speaks ≡ number ∷ [] → v.homes.holds ≡ Some (hold_of a (was v)) → v.chains.gathered ≡ [] → home_in slot ≡ given_home v c → GivesBack v a c
    → Lawful k record { words = set s.words (locks_at + a) 0; homes = set s.homes a (some slot); views = set s.views id (released v a (was v) (home_in slot)) }
frees_lawful k s id a number v slot c law in_r at live goes named alone has_it joined is_y back =
    let b = law.0 in
    let st = law.1 in
    let r = k.layout.records in
    let x = was v in
    let y = home_in slot in
    let w = released v a x y in
    let locks = window locks_at (r + 1) s.words in
    let mine = at_map homes_of s.views id v at in
    let held = st.homes.held in
    let is_mine = held.holders id a x v.homes mine has_it in
    let here = is_mine.1 in
    let fix : v.fixed ≡ k = st.fixed id v at live in
    let in_t : a < k.tunables.records = (let e = st.records in omega arith) in
    let grew : Grew v.homes.number x y = subst (Grew v.homes.number x) (sym is_y) back.grew in
    let fronts : map front v.chains.own ≡ y.fronts = ap (λ (z : HomeValue). z.fronts) (sym is_y) in
    let own_ten : length v.chains.own ≡ 10 = ap length (st.chains.in_hand id a (chains_of v) (at_map chains_of s.views id v at) (x, has_it) in_r) ∙ bins_ten a r b.own in_r st.counts.3 in
    let listed : lines v.homes.number a v.homes.added ≡ placed v.homes.number a [] (journal x) = st.homes.lines.listed id v.homes.number a x v.homes mine (subst (λ (l : List ℕ). 0 < times v.homes.number l) (sym alone) (let one : times v.homes.number (number ∷ []) ≡ 1 = rw (eq-eqb number v.homes.number (sym named)) refl in omega arith)) here in
    let in_k : a < r + 1 = omega arith in
    let in_locks : a < length locks = subst (λ (n : ℕ). a < n) (sym (lock_count k s b st)) in_k in
    let in_slots : a < length (window 0 (r + 1) s.homes) = subst (λ (n : ℕ). a < n) (sym (slot_count k s b st)) in_k in
    let kept : IsAtHome k.tunables a y = home_again k.tunables a x y v.homes c (st.homes.at_home.each a x here) in_t listed grew
    (subst (λ (z : HomeValue). in_order v.homes.number (last_line 0 (lines v.homes.number a v.homes.added)) (grown x z) ≡ true) (sym is_y) back.order)
    (ap (λ (z : HomeValue). z.arena) is_y) (subst (λ (f : Fixed). IsKept f.tunables a c) fix back.kept) (ap (λ (z : HomeValue). z.book) is_y) (sym (ap length fronts) ∙ (same_count front v.chains.own ∙ own_ten)) in
    let comes : Comes a x y v.homes = record { there = ap (λ (z : HomeValue). is_some z.arena) is_y; new = back.new } in
    let homes = homes_unlock k.tunables b.last locks _ (map homes_of s.views) id a x slot v.homes st.homes in_locks in_slots in_t mine live goes (alone ∙ ap (λ (n : ℕ). n ∷ []) (sym named)) has_it grew kept comes in
    let chains = chains_unlock k.layout b.chains b.own b.last locks _ _ (map chains_of s.views) id a x y (chains_of v) st.chains in_locks (inside b.last a x here) in_r (at_map chains_of s.views id v at) has_it fronts joined in
    let only : (q : ℕ) (u : Sight) (z : HomeValue) → get_elem? (map places_of s.views) q ≡ some u → u.holds ≡ Some (hold_of a z) → q ≡ id = (λ q u z e h. let m = at_map_back places_of s.views q u e in
    let o = held.holders q a z m.0.homes (at_map homes_of s.views q m.0 m.1) (sym (ap (λ (i : Sight). i.holds) m.2) ∙ h) in let f : q + 1 ≡ id + 1 = sym o.0 ∙ is_mine.0 in omega arith) in
    let places = places_unlock b.last b.chains b.own b.trays (map places_of s.views) id a x y (places_of v) st.places (at_map places_of s.views id v at) has_it joined here (at_or b.last a x no_home here) only (subst (λ (z : HomeValue). KeepsOthers a x z v.places) (sym is_y) back.others)
    (λ c e. let o = (st.homes.at_home.each a x here).kept c e in o.sound) (λ c e. let o = kept.kept c e in o.sound) in
    (record b { last = set b.last a y }, lock_frame k s b a 0 id v w (set b.last a y) (some slot) st in_k at live refl refl refl refl refl (length-set b.last a y) homes chains places)

pub frees : (k : Fixed) (slots id a number : ℕ) (me : Me Slot ViewValue) (slot : Slot) (c : KeptArena) → a < k.layout.records → me.1 ≡ (a, slot) ∷ [] → me.0.homes.live ≡ true → me.0.homes.retired ≡ false → me.0.homes.number ≡ number → me.0.homes.speaks ≡ number ∷ []
    → me.0.homes.holds ≡ Some (hold_of a (was me.0)) → me.0.chains.gathered ≡ [] → home_in slot ≡ given_home me.0 c → GivesBack me.0 a c
    → Allows (Lawful k) slots id me (locks_at + a) (λ _. 0) (λ _. Frees (step slots (locks_at + a) 0 0 none) me 0)
frees k slots id a number me slot kept in_r held live goes named alone has_it joined is_y back = subst (λ (c : List (ℕ × Slot)). Allows (Lawful k) slots id (me.0, c) (locks_at + a) (λ _. 0) (λ _. Frees (step slots (locks_at + a) 0 0 none) (me.0, c) 0)) (sym held)
    (λ s law long at fits. (released me.0 a (was me.0) (home_in slot), gives, tt, frees_lawful k s id a number me.0 slot kept law in_r at live goes named alone has_it joined is_y back, refl))

-- ---- the book is given back

book_lawful : (k : Fixed) (s : State Slot ViewValue) (id : ℕ) (v : ViewValue) (slot : Slot) (book : BookValue) → Lawful k s → get_elem? s.views id ≡ some v
    → v.homes.live ≡ true → v.homes.retired ≡ false → v.homes.holds ≡ Some (hold_of k.layout.records (was v)) → (was v).arena ≡ None → v.chains.gathered ≡ [] → v.places.pending ≡ [] → home_in slot ≡ book_home book → GivesBook v book
    → Lawful k record { words = set s.words (locks_at + k.layout.records) 0; homes = set s.homes k.layout.records (some slot); views = set s.views id (released_book v (was v) (home_in slot)) }
book_lawful k s id v slot book law at live goes has_it bare joined none_pending is_y back =
    let b = law.0 in
    let st = law.1 in
    let r = k.layout.records in
    let x = was v in
    let y = home_in slot in
    let w = released_book v x y in
    let locks = window locks_at (r + 1) s.words in
    let mine = at_map homes_of s.views id v at in
    let fix : v.fixed ≡ k = st.fixed id v at live in
    let tr = st.records in
    let held = st.homes.held in
    let here = (held.holders id r x v.homes mine has_it).1 in
    let kept : IsAtHome k.tunables k.tunables.records y = book_again k.tunables y book is_y back.sound (subst (λ (f : Fixed). book.records ≡ f.tunables.records) fix back.records) (subst (λ (f : Fixed). AreBelow f.tunables.records book.list × AreBelow f.tunables.records book.kept) fix back.below) in
    let ties : BookBack k.tunables.records v.homes x.book y.book = subst (λ (z : HomeValue). BookBack k.tunables.records v.homes x.book z.book) (sym is_y) (subst (λ (f : Fixed). BookBack f.tunables.records v.homes x.book (Some book)) fix back.back) in
    let homes = homes_book k.tunables b.last locks (window 0 (r + 1) s.homes) (map homes_of s.views) id x slot v.homes (homes_of w) st.homes
    (let c = lock_count k s b st in omega arith) (let c = slot_count k s b st in omega arith) mine goes (has_it ∙ ap (λ (n : ℕ). Some (hold_of n x)) (sym tr)) refl bare kept ties in
    let homes' = subst (λ (n : ℕ). Homes k.tunables (set b.last n y) (set locks n 0) (set (window 0 (r + 1) s.homes) n (some slot)) (set (map homes_of s.views) id (homes_of w))) tr homes in
    let chains = chains_book k.layout b.chains b.own b.last locks (window (heads_at k.layout) (10 * r) s.words) (window (links_at k.layout) (link_words k.layout) s.words) (map chains_of s.views) id r x y (chains_of v) st.chains (omega arith) (at_map chains_of s.views id v at) joined in
    let places = places_book b.last b.chains b.own b.trays (map places_of s.views) id r x y (places_of v) st.places (at_map places_of s.views id v at) joined none_pending here (at_or b.last r x no_home here)
    (λ c. ap (λ o. used_of o c) (kept.no_arena refl) ∙ sym (ap (λ o. used_of o c) bare)) in
    (record b { last = set b.last r y }, lock_frame k s b r 0 id v w (set b.last r y) (some slot) st (omega arith) at live refl refl refl refl refl (length-set b.last r y) homes' chains places)

pub frees_book : (k : Fixed) (slots id : ℕ) (me : Me Slot ViewValue) (slot : Slot) (book : BookValue) → me.1 ≡ (k.layout.records, slot) ∷ [] → me.0.homes.live ≡ true → me.0.homes.retired ≡ false
    → me.0.homes.holds ≡ Some (hold_of k.layout.records (was me.0)) → (was me.0).arena ≡ None → me.0.chains.gathered ≡ [] → me.0.places.pending ≡ [] → home_in slot ≡ book_home book → GivesBook me.0 book
    → Allows (Lawful k) slots id me (locks_at + k.layout.records) (λ _. 0) (λ _. FreesBook (step slots (locks_at + k.layout.records) 0 0 none) me 0)
frees_book k slots id me slot book held live goes has_it bare joined none_pending is_y back = subst (λ (c : List (ℕ × Slot)). Allows (Lawful k) slots id (me.0, c) (locks_at + k.layout.records) (λ _. 0) (λ _. FreesBook (step slots (locks_at + k.layout.records) 0 0 none) (me.0, c) 0)) (sym held)
    (λ s law long at fits. (released_book me.0 (was me.0) (home_in slot), gives, tt, book_lawful k s id me.0 slot book law at live goes has_it bare joined none_pending is_y back, refl))

-- ---- a pass ends

pub ends : (k : Fixed) (slots id : ℕ) (me : Me Slot ViewValue) → me.0.homes.live ≡ true → me.0.homes.speaks ≡ me.0.homes.number ∷ [] → me.0.homes.holds ≡ None → me.0.homes.own ≡ [] → Allows (Lawful k) slots id me 0 (λ n. n) (Ends (step slots 0 0 0 none) me)
ends k slots id me live alone free none_own s law long at fits = let v = me.0 in let w = ended v in (
  w,
  keeps,
  tt,
  subst (λ (ws : List ℕ). Lawful k record { words = ws; homes = s.homes; views = set s.views id w }) (sym (set-get_or s.words 0 0))
      (law.0, still_frame k s law.0 id v w law.1 at live refl refl refl refl refl refl refl (homes_end k.tunables law.0.last _ _ (map homes_of s.views) id v.homes law.1.homes (at_map homes_of s.views id v at) free none_own)),
  (refl, λ n a ne. law.1.homes.lines.others id n a v.homes (at_map homes_of s.views id v at) (ap (times n) alone ∙ rw (ne_eqb v.homes.number n (λ e. ne (sym e))) refl)),
)

-- ---- a pass is made

count_views : (vs : List ViewValue) → length (map homes_of vs) ≡ length vs
count_views [] = refl
count_views (v ∷ vs) = ap suc (count_views vs)

pub enrolls : (k : Fixed) (id : ℕ) (v : ViewValue) → v.fixed ≡ k → v.homes.live ≡ true → v.homes.retired ≡ false → v.homes.number ≡ 0 → v.homes.made < 256
    → Splits (Lawful k) id v (enroller v) (newcomer v.fixed v.homes.made)
enrolls k id v fix live goes first room s law at =
    let b = law.0 in
    let st = law.1 in
    let w = enroller v in
    let r = newcomer v.fixed v.homes.made in (
      b,
      record {
        wide = st.wide;
        homes = subst (Homes k.tunables b.last _ _) (sym (map-append homes_of (set s.views id w) (r ∷ []) ∙ ap (λ (xs : List HomesView). xs ++ homes_of r ∷ []) (map-set homes_of s.views id w)))
            (homes_enroll k.tunables b.last _ _ (map homes_of s.views) id v.homes (homes_of w) (homes_of r) st.homes (at_map homes_of s.views id v at) live goes first refl refl);
        trays = subst (Trays b.trays _ _) (sym (fields_more trays_of s.views id v w r at refl)) (trays_newcomer b.trays _ _ (map trays_of s.views) (trays_of r) st.trays refl);
        dials = subst (Dials k.tunables b.trays _) (sym (fields_more dials_of s.views id v w r at refl)) (dials_newcomer k.tunables b.trays _ (map dials_of s.views) (dials_of r) st.dials refl);
        chains = subst (Chains k.layout b.chains b.own b.last _ _ _) (sym (fields_more chains_of s.views id v w r at refl)) (chains_newcomer k.layout b.chains b.own b.last _ _ _ (map chains_of s.views) (chains_of r) st.chains refl);
        places = subst (Places b.last b.chains b.own b.trays) (sym (fields_more places_of s.views id v w r at refl)) (places_newcomer b.last b.chains b.own b.trays (map places_of s.views) (places_of r) st.places refl);
        fixed = λ p u e alive. ⊎_elim (λ o. fixed_stay k s.views id v w at refl refl st.fixed p u o alive) (λ t. ap (λ (n : ViewValue). n.fixed) (sym t.1) ∙ fix) (at_end (set s.views id w) r u p e);
        spent = λ p u e silent. ⊎_elim (λ o. spent_stay s.views id v w at live refl st.spent p u o silent) (λ t. absurd (let z : 1 ≡ 0 = ap (λ (n : ViewValue). length n.homes.speaks) t.1 ∙ ap (λ (l : List ℕ). length l) silent in omega arith)) (at_end (set s.views id w) r u p e);
        held = st.held;
        few = let l = length-set s.views id w in let a = length-append (set s.views id w) (r ∷ []) in let m = (st.homes.held.numbers id v.homes (at_map homes_of s.views id v at) live) in let n = m.1 (sym m.0 ∙ first) in let c = count_views s.views in omega arith;
        laid = st.laid;
        records = st.records;
        counts = st.counts;
      },
    )
