-- A hold as the layers above see it: what a try gives, and what giving back asks and leaves.
use Rattle.std.proofs.Common.{◌≡◌, ℕ, ◌+◌, ◌<◌, ◌≤◌, List, [], ◌∷◌, ◌++◌, length, drop, sym, refl, ap, ◌∙◌, arith, Option as Maybe, Some, subst, true, false, true≢false, Bool, ◌&&◌, if◌then◌else◌, nat_eq, nat_le, eq-eqb}
use Rattle.std.specs.Prelude.{is_some}
use Rattle.std.specs.List.{AllByRecursion}
use Rattle.std.proofs.lemmas.Bool.Decides.{nat_tests}
use Rattle.chunk_tags.specs.declared.tiles.Chunk.{Chunk}
use Rattle.arena_rules.specs.PlainArena.{IsSound}
use Rattle.arena_core.specs.Journal.{Recorded}
use Rattle.arena_core.specs.declared.journal.Who.{Who}
use Rattle.arena_core.specs.KeptArenas.{KeptArena}
use Rattle.board_types.specs.Views.{ViewValue, HomeValue, Added, Own}
use Rattle.board_types.specs.Flat.{flat}
use Rattle.board_types.specs.Homes.{stored_now, journal, journal_of, grown, placed, lines, last_line, in_order, all_by}
use Rattle.board_types.specs.Chains.{times_own}
use Rattle.board_types.specs.Places.{times_in, used_in, used_of, mine_after}
use Rattle.board_types.specs.Plays.{holding, tried, released, was, given_home, IsLearned, GivesBack}
use Rattle.board_types.specs.Faces.{seen, stock_of, Locks, Returns, Unlocked, AreOf, items_of}
use Rattle.board_places.proofs.PlaceHolds.{mine_with_others, mine_else, used_once}
use Rattle.board_types.proofs.Lists.{Some_inj}

-- tries and locks are not seen
pub flat_tried : (v : ViewValue) (a n : ℕ) → flat (tried v a n) ≡ flat v
flat_tried v a n = refl

pub flat_holding : (v : ViewValue) (a : ℕ) (x : HomeValue) (ls : List (List ℕ)) → flat (holding v a x ls) ≡ flat v
flat_holding v a x ls = refl

-- what a try gives
pub locks_of : (v : ViewValue) (a : ℕ) (x : HomeValue) (ls : List (List ℕ)) → IsLearned v a x → a < v.fixed.tunables.records → v.places.pending ≡ []
    → Locks v.fixed.tunables (flat v) a (seen (holding v a x ls) a) (stock_of (holding v a x ls) a)
locks_of v a x ls learned inside none_pending = record {
  view = refl;
  arena = refl;
  some = learned.there inside;
  home = λ k e. learned.at_home.kept k e;
  backed = λ k c e. let m = learned.mine c in let p : times_own a c v.places.pending ≡ 0 = ap (times_own a c) none_pending in let u : used_in x c ≡ used_of (Some k) c = ap (λ (o : Maybe KeptArena). used_of o c) e in omega arith;
}

drop_front : {A : Type 0} (xs ys : List A) → drop (length xs) (xs ++ ys) ≡ ys
drop_front [] ys = refl
drop_front (x ∷ xs) ys = drop_front xs ys

all_of : (who : Who) (n : ℕ) (es : List Recorded) → who.thread ≡ n → AreOf who es → all_by n es ≡ true
all_of who n [] e h = refl
all_of who n (x ∷ xs) e h = rw (eq-eqb x.who.thread n (ap (λ (w : Who). w.thread) h.0 ∙ e)) (all_of who n xs e h.1)

line_of : (who : Who) (n floor : ℕ) (es : List Recorded) → who.thread ≡ n → floor ≤ who.line → AreOf who es → in_order n floor es ≡ true
line_of who n floor [] e l h = refl
line_of who n floor (x ∷ xs) e l h =
    let at : x.who.line ≡ who.line = ap (λ (w : Who). w.line) h.0 in
    let rest = line_of who n x.who.line xs e (omega arith) h.1 in
    rw (eq-eqb x.who.thread n (ap (λ (w : Who). w.thread) h.0 ∙ e)) (both (nat_le floor x.who.line) (in_order n x.who.line xs) (le_true floor x.who.line (omega arith)) rest) where
      both : (b c : Bool) → b ≡ true → c ≡ true → (b && c) ≡ true
      both b c p q = λ i. p i && q i

      le_true : (m k : ℕ) → m ≤ k → nat_le m k ≡ true
      le_true m k l = grind (arith, nat_tests)

up_to : (line floor n a : ℕ) (xs : List Added) → floor ≤ line → AllByRecursion (λ (x : Added). x.entry.who.line ≤ line) xs → last_line floor (lines n a xs) ≤ line
up_to line floor n a [] l h = l
up_to line floor n a (x ∷ xs) l h = by (nat_eq x.arena a) (nat_eq x.entry.who.thread n) (up_to line floor n a xs l h.1) (up_to line x.entry.who.line n a xs h.0 h.1) where
  by : (b c : Bool) → last_line floor (lines n a xs) ≤ line → last_line x.entry.who.line (lines n a xs) ≤ line → last_line floor (if b then (if c then x ∷ lines n a xs else lines n a xs) else lines n a xs) ≤ line
  by true true p q = q
  by true false p q = p
  by false c p q = p

-- what the layers above say of an arena that comes back is what the rule asks
pub gives_back : (v : ViewValue) (who : Who) (a : ℕ) (before : KeptArena) (entries : List Recorded) (k : KeptArena) → Returns v.fixed.tunables who (seen v a) (stock_of v a) before entries k → GivesBack v a k
gives_back v who a before entries k h =
    let n = v.homes.number in
    let x = was v in
    let was_it : journal x ≡ before.journal = ap journal_of h.kept in
    let more : k.journal ≡ journal x ++ entries = h.grew ∙ ap (λ (js : List Recorded). js ++ entries) (sym was_it) in
    let grown_is : grown x (given_home v k) ≡ entries = ap (drop (length (journal x))) more ∙ drop_front (journal x) entries in record {
      kept = h.home;
      grew = record { more = more ∙ ap (λ (es : List Recorded). journal x ++ es) (sym grown_is); own = ap (all_by n) grown_is ∙ all_of who n entries h.fits.thread h.whose };
      order = ap (in_order n (last_line 0 (lines n a v.homes.added))) grown_is ∙ line_of who n _ entries h.fits.thread (up_to who.line 0 n a v.homes.added (omega arith) h.fits.lines) h.whose;
      new = λ e. absurd (true≢false (sym (ap (λ (o : Maybe KeptArena). is_some o) h.kept) ∙ e));
      others = record { used = λ c. let s = h.covered c in omega arith };
    }

placed_items : (n a : ℕ) (before es : List Recorded) → all_by n es ≡ true → placed n a before es ≡ items_of a before es
placed_items n a before [] h = refl
placed_items n a before (e ∷ es) h = by (nat_eq e.who.thread n) h (placed_items n a (before ++ e ∷ []) es) where
  by : (b : Bool) → (if b then all_by n es else false) ≡ true → (all_by n es ≡ true → placed n a (before ++ e ∷ []) es ≡ items_of a (before ++ e ∷ []) es)
      → (if b then record { arena = a; before = before; entry = e } ∷ placed n a (before ++ e ∷ []) es else placed n a (before ++ e ∷ []) es) ≡ record { arena = a; before = before; entry = e } ∷ items_of a (before ++ e ∷ []) es
  by true h more = ap (λ (xs : List Added). record { arena = a; before = before; entry = e } ∷ xs) (more h)
  by false h more = absurd (true≢false (sym h))

-- and what it leaves
pub unlocked_of : (v : ViewValue) (who : Who) (a : ℕ) (before : KeptArena) (entries : List Recorded) (k : KeptArena) → Returns v.fixed.tunables who (seen v a) (stock_of v a) before entries k
    → ((c : Chunk) → times_in a c v.places.mine ≤ used_in (was v) c + times_own a c v.places.pending) → ((c : Chunk) → used_in (was v) c + times_own a c v.places.pending ≤ 1)
    → Unlocked (seen v a) (stock_of v a) before entries k (flat (released v a (was v) (given_home v k)))
unlocked_of v who a before entries k h backed one =
    let n = v.homes.number in
    let x = was v in
    let g = gives_back v who a before entries k h in
    let more : k.journal ≡ journal x ++ entries = h.grew ∙ ap (λ (js : List Recorded). js ++ entries) (sym (ap journal_of h.kept)) in
    let grown_is : grown x (given_home v k) ≡ entries = ap (drop (length (journal x))) more ∙ drop_front (journal x) entries in record {
      mine = λ c. mine_with_others a x (given_home v k) v.places c (backed c) (one c) (used_once (Some k) c (λ j e. subst (λ (i : KeptArena). IsSound i.arena) (Some_inj k j e) h.home.sound)) (g.others.used c);
      others = λ m c ne. mine_else m a x (given_home v k) v.places c ne;
      added = ap (λ (xs : List Added). v.homes.added ++ xs) ((λ i. placed n a (ap journal_of h.kept i) (grown_is i)) ∙ placed_items n a before.journal entries (all_of who n entries h.fits.thread h.whose));
      rest = own_same (is_some x.arena) (ap (λ (o : Maybe KeptArena). is_some o) h.kept);
    } where
      own_same : (b : Bool) → is_some (was v).arena ≡ true → flat (released v a (was v) (given_home v k)) ≡ record (flat v) { mine = mine_after a (was v) (given_home v k) v.places; added = (released v a (was v) (given_home v k)).homes.added }
      own_same b e = ap (λ (os : List Own). record (flat (released v a (was v) (given_home v k))) { own = os }) (ap (λ (t : Bool). if t then v.homes.own else stored_now a v.homes.own) e)
