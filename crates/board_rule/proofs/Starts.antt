-- The table at the start.
use Rattle.std.proofs.Common.{◌≡◌, ◌≢◌, ℕ, zero, suc, ◌+◌, ◌*◌, ◌-◌, ◌<◌, ◌≤◌, inl, ⊎_elim, List, [], ◌∷◌, ◌++◌, map, length, get_or, set, take, drop, sym, refl, ap, ◌∙◌, arith, Option as Maybe, Some, None, subst, true, false, true≢false, replicate, Bool, if◌then◌else◌, cond, nat_eq, ne_eqb, eq-eqb, length-set, length-append, get_or-set_other, get_or-set_same}
use Rattle.std.specs.Prelude.{is_some, ◌/◌}
use Rattle.std.proofs.lemmas.Option.{none-some}
use Rattle.std.proofs.lemmas.List.{take-replicate, drop-replicate, length-replicate, take-map, drop-map}
use Rattle.std.proofs.lemmas.Bool.Decides.{nat_tests}
use mathlib.Core.Logic.{dite}
use native.Mathlib.Decide.{ℕ_discrete}
use mathlib.Core.Option.{Option, some, some-injective, some-ne-none}
use lib.ListN.{get_elem?}
use Rattle.atomic_table.specs.Table.{opening}
use Rattle.atomic_table.proofs.Lists.{at_map}
use Rattle.chunk_tags.specs.declared.block.Block.{Block}
use Rattle.chunk_tags.specs.declared.tiles.Chunk.{Chunk}
use Rattle.chunk_tags.specs.declared.tunables.Tunables.{Tunables}
use Rattle.address_space.specs.Spaces.{map_length}
use Rattle.arena_choice.specs.Books as books
use Rattle.arena_choice.specs.Books.{BookValue, first_book}
use Rattle.board_types.specs.declared.layout.Fixed.{Fixed}
use Rattle.board_types.specs.declared.slot.Slot.{Slot}
use Rattle.arena_core.specs.KeptArenas.{KeptArena, IsKept}
use Rattle.board_types.specs.Layouts.{window, locks_at, heads_at, trays_at, links_at, link_words, dials_at, tray_count}
use Rattle.board_types.specs.Views.{ViewValue, HomeValue, HomesView, TraysView}
use Rattle.board_types.specs.Weights.{weigh, each, times}
use Rattle.board_types.specs.Homes.{AreBelow, Homes, IsAtHome, AreListed, home_in, journal, placed, list_of, lines, kept_numbers}
use Rattle.board_types.specs.Trays.{Tray, Vacant, Claimed, Full, Took, Trays, Lies, code, posted, taken, with_tray, tray_slot, AreFound}
use Rattle.board_types.specs.Dials.{Dials, Counting, full, as_mapped, as_mapped_bytes, AreAtMost, AreRaises, AreRead}
use Rattle.board_types.specs.Chains.{Chains, Chaining, Spells, front, times_at, link_at}
use Rattle.board_types.specs.Places.{Places, used_at, used_in, as_chunk_of, pends}
use Rattle.board_types.specs.Law.{IsTrayed, Lawful, homes_of, trays_of, dials_of, chains_of, places_of, opener, table_words}
use Rattle.board_types.specs.Starts.{AreFirst, first_homes, first_words, no_record, main_record, book_place, IsOpening}
use Rattle.board_types.proofs.Lists.{at_end, at_map_back, window_below, window_or}
use Rattle.board_types.specs.Views.{hold_of}
use Rattle.board_rule.proofs.Frames.{moved2}

pub tray_count_is : tray_count ≡ 65536
unfolding tray_count
tray_count_is = refl

module _ {A : Type 0} where
  window_replicate : (from n m : ℕ) (x : A) → from + n ≤ m → window from n (replicate m x) ≡ replicate n x
  window_replicate from n m x l = ap (take n) (drop-replicate from m x) ∙ take-replicate n (m - from) x (omega arith)

  map_replicate : {B : Type 0} (f : A → B) (n : ℕ) (x : A) → map f (replicate n x) ≡ replicate n (f x)
  map_replicate f zero x = refl
  map_replicate f (suc n) x = ap (λ t. f x ∷ t) (map_replicate f n x)

  at_replicate : (n k : ℕ) (x y : A) → get_elem? (replicate n x) k ≡ some y → (k < n) × (x ≡ y)
  at_replicate zero k x y e = absurd (some-ne-none y (sym e))
  at_replicate (suc n) zero x y e = (omega arith, some-injective x y e)
  at_replicate (suc n) (suc k) x y e = let h = at_replicate n k x y e in let l = h.0 in (omega arith, h.1)

  in_replicate : (n k : ℕ) (x : A) → k < n → get_elem? (replicate n x) k ≡ some x
  in_replicate zero k x l = absurd (omega arith)
  in_replicate (suc n) zero x l = refl
  in_replicate (suc n) (suc k) x l = in_replicate n k x (omega arith)

  only : (p : ℕ) (v w : A) → get_elem? (v ∷ []) p ≡ some w → (p ≡ 0) × (v ≡ w)
  only zero v w e = (refl, some-injective v w e)
  only (suc p) v w e = absurd (some-ne-none w (sym e))

abbrev zeros_of : ℕ → List ℕ
zeros_of n = replicate n 0

zero_or : (n k : ℕ) → get_or (zeros_of n) k 0 ≡ 0
zero_or zero k = refl
zero_or (suc n) zero = refl
zero_or (suc n) (suc k) = zero_or n k

-- what lies at the homes at the start
data Where (r a : ℕ) (z : HomeValue) : Type 0 where
  is_main : a ≡ 0 → main_record ≡ z → Where r a z
  is_none : 0 < a → a < r → no_record ≡ z → Where r a z
  is_book : a ≡ r → book_place r ≡ z → Where r a z

which_home : (r a : ℕ) (z : HomeValue) → 1 ≤ r → get_elem? (first_homes r) a ≡ some z → Where r a z
which_home r zero z l e = is_main refl (some-injective main_record z e)
which_home r (suc a) z l e = ⊎_elim
    (λ o. let h = at_replicate (r - 1) a no_record z o in let m = h.0 in is_none (omega arith) (omega arith) h.1)
    (λ t. let m = t.0 in let n : length (replicate (r - 1) no_record) ≡ r - 1 = length-replicate (r - 1) no_record in is_book (omega arith) t.1)
    (at_end (replicate (r - 1) no_record) (book_place r) z a e)

no_journal : (r a : ℕ) (z : HomeValue) → Where r a z → journal z ≡ []
no_journal r a z (is_main e f) = sym (ap journal f)
no_journal r a z (is_none l m f) = sym (ap journal f)
no_journal r a z (is_book e f) = sym (ap journal f)

no_used : (r a : ℕ) (z : HomeValue) (c : Chunk) → Where r a z → used_in z c ≡ 0
no_used r a z c (is_main e f) = sym (ap (λ (x : HomeValue). used_in x c) f)
no_used r a z c (is_none l m f) = sym (ap (λ (x : HomeValue). used_in x c) f)
no_used r a z c (is_book e f) = sym (ap (λ (x : HomeValue). used_in x c) f)

used_zero : (xs : List HomeValue) (c : Chunk) → ((j : ℕ) (z : HomeValue) → get_elem? xs j ≡ some z → used_in z c ≡ 0) → (a : ℕ) → used_at xs a c ≡ 0
used_zero [] c h a = refl
used_zero (x ∷ xs) c h zero = h 0 x refl
used_zero (x ∷ xs) c h (suc a) = used_zero xs c (λ j z e. h (suc j) z e) a

home_kept : (k : Fixed) (a : ℕ) (z : HomeValue) → IsOpening k → Where k.layout.records a z → IsAtHome k.tunables a z
home_kept k a z o (is_main e f) = subst (λ (x : HomeValue). IsAtHome k.tunables a x) f (record {
  kept = λ c same. subst (λ (n : ℕ). IsKept k.tunables n c) (sym e) (subst (IsKept k.tunables 0) (Some_same _ _ same) o.main);
  lines = λ n. refl;
  sound = λ b same. absurd (none-some b same);
  below = λ b same. absurd (none-some b same);
  no_book = λ l. refl;
  no_arena = λ l. absurd (let m = o.records in let n = o.laid.records.0 in omega arith);
  ten = λ l. refl;
}) where
  unsome : KeptArena → Maybe KeptArena → KeptArena
  unsome d (Some x) = x
  unsome d None = d

  Some_same : (x y : KeptArena) → Some x ≡ Some y → x ≡ y
  Some_same x y e = ap (unsome x) e
home_kept k a z o (is_none l m f) = subst (λ (x : HomeValue). IsAtHome k.tunables a x) f (record {
  kept = λ c same. absurd (none-some c same);
  lines = λ n. refl;
  sound = λ b same. absurd (none-some b same);
  below = λ b same. absurd (none-some b same);
  no_book = λ l. refl;
  no_arena = λ l. refl;
  ten = λ l. refl;
})
home_kept k a z o (is_book e f) = subst (λ (x : HomeValue). IsAtHome k.tunables a x) f (record {
  kept = λ c same. absurd (none-some c same);
  lines = λ n. refl;
  sound = λ b same. subst (λ (c : BookValue). books.IsSound c × (c.records ≡ k.tunables.records)) (Some_same _ _ same) (o.book, sym o.records);
  below = λ b same. subst (λ (c : BookValue). AreBelow k.tunables.records c.list × AreBelow k.tunables.records c.kept) (Some_same _ _ same) ((let m = o.records in let n = o.laid.records.0 in omega arith, tt), tt);
  no_book = λ l. absurd (let m = o.records in omega arith);
  no_arena = λ l. refl;
  ten = λ l. absurd (let m = o.records in omega arith);
}) where
  unsome : BookValue → Maybe BookValue → BookValue
  unsome d (Some x) = x
  unsome d None = d

  Some_same : (x y : BookValue) → Some x ≡ Some y → x ≡ y
  Some_same x y e = ap (unsome x) e

-- ---- each part

homes_start : (k : Fixed) (slots : List Slot) (locks : List ℕ) → IsOpening k → AreFirst k.layout.records slots → ((a : ℕ) → get_or locks a 0 ≡ 0)
    → Homes k.tunables (first_homes k.layout.records) locks (take (k.layout.records + 1) (map some slots)) (homes_of (opener k) ∷ [])
homes_start k slots locks o first unlocked =
    let r = k.layout.records in
    let one = o.laid.records.0 in
    let v = homes_of (opener k) in
    let place : (a : ℕ) (z : HomeValue) → get_elem? (first_homes r) a ≡ some z → Where r a z = (λ a z e. which_home r a z one e) in
    let no_word : (a p : ℕ) → get_or locks a 0 ≡ p + 1 → ⊥ = (λ a p e. let u = unlocked a in let z : 0 ≡ p + 1 = sym u ∙ e in absurd (omega arith)) in
    let free : (p a : ℕ) (x : HomeValue) (u : HomesView) → get_elem? (v ∷ []) p ≡ some u → u.holds ≡ Some (hold_of a x) → ⊥ = (λ p a x u e held. none-some (hold_of a x) (ap (λ (w : HomesView). w.holds) (only p v u e).1 ∙ held)) in record {
      held = record {
        at_home = λ a z e zero_there. let m = at_map_back home_in (take (r + 1) slots) a z (ap (λ (xs : List HomeValue). get_elem? xs a) first.homes ∙ e) in
            (m.0, ap (λ (xs : List (Option Slot)). get_elem? xs a) (take-map some (r + 1) slots) ∙ at_map some (take (r + 1) slots) a m.0 m.1, sym m.2);
        away = λ a p z e w. absurd (no_word a p w);
        in_hand = λ a p z e w. absurd (no_word a p w);
        holders = λ p a z u e held. absurd (free p a z u e held);
        numbers = λ p u e live. let h = only p v u e in (ap (λ (w : HomesView). w.number) (sym h.1) ∙ sym h.0, λ z. ap (λ (w : HomesView). w.made) (sym h.1));
      };
      at_home = record { each = λ a z e. home_kept k a z o (place a z e) };
      lines = record {
        listed = λ p n a z u e some_there f. ap (λ (w : HomesView). lines n a w.added) (sym (only p v u e).1) ∙ sym (ap (placed n a []) (no_journal r a z (place a z f)));
        others = λ p n a u e none_there. ap (λ (w : HomesView). lines n a w.added) (sym (only p v u e).1);
        within = λ p n a u e far. ap (λ (w : HomesView). lines n a w.added) (sym (only p v u e).1);
        unknown = λ n a z e l. ap (placed n a []) (no_journal r a z (place a z e));
        each_once = λ n. dite (ℕ_discrete 0 n) (λ is. rw (eq-eqb 0 n is) (grind (arith, nat_tests))) (λ ne. rw (ne_eqb 0 n ne) (grind (arith, nat_tests)));
      };
      ties = record {
        book = λ z e. by_book z (λ t. is_some t.book ≡ true) (place k.tunables.records z e) refl;
        kept = λ n z e. by_book z (λ t. times n (kept_numbers t.book) ≡ 0) (place k.tunables.records z e) refl;
        there = λ a x y l e f. by_book y (λ t. (if is_some x.arena then 1 else 0) ≡ times a (list_of t.book) + 0) (place k.tunables.records y f) (there_at a x l (place a x e));
        lists = λ p u y e f. subst (λ (w : HomesView). AreListed (list_of y.book) w.lists) (only p v u e).1 tt;
      };
      ended = λ p u e yes. absurd (true≢false (sym yes ∙ ap (λ (w : HomesView). w.retired) (sym (only p v u e).1)));
    } where
      by_book : (z : HomeValue) (P : HomeValue → Type 0) → Where k.layout.records k.tunables.records z → P (book_place k.layout.records) → P z
      by_book z P (is_main e f) h = absurd (let m = o.records in let n = o.laid.records.0 in omega arith)
      by_book z P (is_none l m f) h = absurd (let n = o.records in omega arith)
      by_book z P (is_book e f) h = subst P f h

      there_at : (a : ℕ) (x : HomeValue) → a < k.tunables.records → Where k.layout.records a x → (if is_some x.arena then 1 else 0) ≡ times a (0 ∷ []) + 0
      there_at a x l (is_main e f) = ap (λ (z : HomeValue). if is_some z.arena then 1 else 0) (sym f) ∙ rw (eq-eqb 0 a (sym e)) refl
      there_at a x l (is_none m n f) = ap (λ (z : HomeValue). if is_some z.arena then 1 else 0) (sym f) ∙ rw (ne_eqb 0 a (λ z. omega arith)) refl
      there_at a x l (is_book e f) = absurd (let n = o.records in omega arith)

each_none : {A : Type 0} (f : ℕ → A → ℕ) (i n : ℕ) (x : A) → ((j : ℕ) → f j x ≡ 0) → each f i (replicate n x) ≡ 0
each_none f i zero x h = refl
each_none f i (suc n) x h = let a = h i in let b = each_none f (i + 1) n x h in omega arith

abbrev vacancy : Tray → Type 0
vacancy Vacant = Unit {0}
vacancy (Claimed p b) = ⊥
vacancy (Full b) = ⊥
vacancy (Took b) = ⊥

not_claimed : (p : ℕ) (b : Block) → Vacant ≡ Claimed p b → ⊥
not_claimed p b e = subst vacancy e tt

trays_start : (n : ℕ) (v : TraysView) → v.hand ≡ None → v.drawing ≡ None → v.posts ≡ [] → v.takes ≡ [] → v.found ≡ [] → Trays (replicate n Vacant) (replicate n 0) (replicate n (some (tray_slot None))) (v ∷ [])
trays_start n v hand drawing posts takes found = record {
  codes = sym (map_replicate code n Vacant);
  lies = λ k t e. let h = at_replicate n k Vacant t e in (some (tray_slot None), in_replicate n k (some (tray_slot None)) h.0, subst (λ (u : Tray). Lies u (some (tray_slot None))) h.1 refl);
  claims = λ p k b e. let h = at_replicate n k Vacant (Claimed p b) e in absurd (not_claimed p b h.1);
  hands = λ p k b u e held. absurd (none-some (with_tray k b) (sym hand ∙ (ap (λ (w : TraysView). w.hand) (only p v u e).1 ∙ held)));
  draws = λ p k u e d. absurd (none-some k (sym drawing ∙ (ap (λ (w : TraysView). w.drawing) (only p v u e).1 ∙ d)));
  posts = λ f. let a : weigh f v.posts ≡ 0 = ap (weigh f) posts in let b = each_none (posted f) 0 n Vacant (λ j. refl) in omega arith;
  takes = λ f. let a : weigh f v.takes ≡ 0 = ap (weigh f) takes in let b = each_none (taken f) 0 n Vacant (λ j. refl) in omega arith;
  found = λ p u e. subst (λ (fs : List (ℕ × ℕ)). AreFound (replicate n 0) fs) (sym found ∙ ap (λ (w : TraysView). w.found) (only p v u e).1) tt;
}

-- the words of the dials
record AreDials (t : Tunables) (words : List ℕ) : Type 0 where
  mmap : get_or words 0 0 ≡ t.mmap_threshold
  trim : get_or words 1 0 ≡ t.trim_threshold
  mapped : get_or words 2 0 ≡ 0
  bytes : get_or words 3 0 ≡ 0
  most : get_or words 4 0 ≡ 0
  most_bytes : get_or words 5 0 ≡ 0

dials_start : (k : Fixed) (n : ℕ) (words : List ℕ) → AreDials k.tunables words → Dials k.tunables (replicate n Vacant) words (dials_of (opener k) ∷ [])
dials_start k n words d = let v = dials_of (opener k) in
    let e1 = each_none (full as_mapped) 0 n Vacant (λ j. refl) in let e2 = each_none (full as_mapped_bytes) 0 n Vacant (λ j. refl) in let w2 = d.mapped in let w3 = d.bytes in let w4 = d.most in let w5 = d.most_bytes in record {
      mapped = omega arith;
      bytes = omega arith;
      most_mapped = inl (omega arith);
      most_bytes = inl (omega arith);
      all_mapped = (omega arith, omega arith);
      all_bytes = (omega arith, omega arith);
      due = λ p u e. subst (λ (w : Counting). AreAtMost 0 w.0.due_mapped × AreAtMost 0 w.0.due_bytes) (only p v u e).1 (tt, tt);
      raises = λ p u e. subst (λ (w : Counting). AreRaises k.tunables w.0.raises) (only p v u e).1 tt;
      thresholds = (inl d.mmap, inl d.trim);
      read = λ p u e. subst (λ (w : Counting). AreRead k.tunables (v ∷ []) w.0.read) (only p v u e).1 tt;
      windows = λ p u e. subst (λ (w : Counting). w.0.given ≤ w.0.windows * map_length) (only p v u e).1 (omega arith);
      given = omega arith;
      counted = λ p u e. subst (λ (w : Counting). w.0.all_mapped ≤ w.0.windows * (map_length + 1)) (only p v u e).1 (omega arith);
      one_each = refl;
    }

abbrev cond_zero : Bool → ℕ
cond_zero b = cond b 0 0

if_zero : (b : Bool) → cond_zero b ≡ 0
if_zero true = refl
if_zero false = refl

no_times : (a : ℕ) (c : Chunk) (j : ℕ) → times_at a c j [] ≡ 0
no_times a c j = if_zero (nat_eq (j / 10) a)

chains_start : (k : Fixed) (locks links : List ℕ) → 1 ≤ k.layout.records → Chains k.layout (replicate (10 * k.layout.records) []) (replicate (10 * k.layout.records) []) (first_homes k.layout.records) locks (replicate (10 * k.layout.records) 0) links (chains_of (opener k) ∷ [])
chains_start k locks links one = let r = k.layout.records in let n : ℕ = 10 * r in let v = chains_of (opener k) in record {
  spelled = λ i cs e. let h = at_replicate n i [] cs e in subst (λ (xs : List ℕ). Spells (link_at k.layout links (i / 10)) xs (get_or (replicate n 0) i 0)) h.1 (zero_or n i);
  owned = λ i cs e. let h = at_replicate n i [] cs e in subst (λ (xs : List ℕ). Spells (link_at k.layout links (i / 10)) xs (front xs)) h.1 refl;
  fronts = λ a z l e unlocked. ap (map front) (window_replicate (10 * a) 10 n [] (omega arith)) ∙ fronts_at a z l (which_home r a z one e);
  in_hand = λ p a u e held l. absurd (none-some (hold_of a held.0) (ap (λ (w : Chaining). w.1) (only p v u e).1 ∙ held.1));
  gathered = λ p a b cs u e held g. absurd (none-some (hold_of a held.0) (ap (λ (w : Chaining). w.1) (only p v u e).1 ∙ held.1));
  none_gathered = λ p u e none. ap (λ (w : Chaining). w.0.gathered) (sym (only p v u e).1);
  pushed = λ a c. let e1 = each_none (times_at a c) 0 n [] (λ j. no_times a c j) in omega arith;
  written = λ p m c u e is. absurd (none-some (c, m) (ap (λ (w : Chaining). w.0.written) (only p v u e).1 ∙ is));
  loaded = λ p l u e is ne held. absurd (none-some l (ap (λ (w : Chaining). w.0.loaded) (only p v u e).1 ∙ is));
  next = λ p m l u e is to. absurd (none-some l (ap (λ (w : Chaining). w.0.loaded) (only p v u e).1 ∙ is));
  walks = λ p d u e is held. absurd (none-some d (ap (λ (w : Chaining). w.0.walk) (only p v u e).1 ∙ is));
  bins = λ p l u e is. absurd (none-some l (ap (λ (w : Chaining). w.0.loaded) (only p v u e).1 ∙ is));
  walk_bins = λ p d u e is. absurd (none-some d (ap (λ (w : Chaining). w.0.walk) (only p v u e).1 ∙ is));
} where
  fronts_at : (a : ℕ) (z : HomeValue) → a < k.layout.records → Where k.layout.records a z → map front (replicate 10 []) ≡ z.fronts
  fronts_at a z l (is_main e f) = ap (λ (x : HomeValue). x.fronts) f
  fronts_at a z l (is_none m n f) = ap (λ (x : HomeValue). x.fronts) f
  fronts_at a z l (is_book e f) = absurd (omega arith)

places_start : (k : Fixed) (n m : ℕ) → 1 ≤ k.layout.records → Places (first_homes k.layout.records) (replicate m []) (replicate m []) (replicate n Vacant) (places_of (opener k) ∷ [])
places_start k n m one = let r = k.layout.records in
    let none_used : (a : ℕ) (c : Chunk) → used_at (first_homes r) a c ≡ 0 = (λ a c. used_zero (first_homes r) c (λ j z e. no_used r j z c (which_home r j z one e)) a) in
    let v = places_of (opener k) in record {
      one_place = λ a c. let e1 = each_none (full (as_chunk_of a c)) 0 n Vacant (λ j. refl) in let e2 = each_none (times_at a c) 0 m [] (λ j. no_times a c j) in let u = none_used a c in omega arith;
      once = λ a c. let u = none_used a c in omega arith;
      changed = λ a c. let u = none_used a c in omega arith;
      pending = λ p a c u e l. absurd (let z : pends a c u ≡ 0 = ap (pends a c) (sym (only p v u e).1) in omega arith);
    }

-- ---- all of it

word_zero : (k : Fixed) (i : ℕ) → 1 ≢ i → 2 ≢ i → get_or (first_words k) i 0 ≡ 0
word_zero k i one two = get_or-set_other (set (replicate (table_words k.layout) 0) 1 k.tunables.mmap_threshold) 2 i k.tunables.trim_threshold 0 (λ e. two (sym e)) ∙ (get_or-set_other (replicate (table_words k.layout) 0) 1 i k.tunables.mmap_threshold 0 (λ e. one (sym e)) ∙ zero_or (table_words k.layout) i)

word_window : (k : Fixed) (from n : ℕ) → 3 ≤ from → from + n ≤ table_words k.layout → window from n (first_words k) ≡ replicate n 0
word_window k from n low high = window_below from n 2 (set (replicate (table_words k.layout) 0) 1 k.tunables.mmap_threshold) k.tunables.trim_threshold (omega arith)
    ∙ (window_below from n 1 (replicate (table_words k.layout) 0) k.tunables.mmap_threshold (omega arith) ∙ window_replicate from n (table_words k.layout) 0 high)

dial_words : (k : Fixed) → AreDials k.tunables (window dials_at 6 (first_words k))
dial_words k = let n = table_words k.layout in let zeros : List ℕ = replicate n 0 in
    let long : length zeros ≡ n = length-replicate n 0 in
    let long' : length (set zeros 1 k.tunables.mmap_threshold) ≡ n = length-set zeros 1 k.tunables.mmap_threshold ∙ long in record {
      mmap = window_or dials_at 6 0 (first_words k) (omega arith) ∙ (get_or-set_other (set zeros 1 k.tunables.mmap_threshold) 2 1 k.tunables.trim_threshold 0 (λ e. omega arith) ∙ get_or-set_same zeros 1 k.tunables.mmap_threshold 0 (omega arith));
      trim = window_or dials_at 6 1 (first_words k) (omega arith) ∙ get_or-set_same (set zeros 1 k.tunables.mmap_threshold) 2 k.tunables.trim_threshold 0 (omega arith);
      mapped = window_or dials_at 6 2 (first_words k) (omega arith) ∙ word_zero k 3 (λ e. omega arith) (λ e. omega arith);
      bytes = window_or dials_at 6 3 (first_words k) (omega arith) ∙ word_zero k 4 (λ e. omega arith) (λ e. omega arith);
      most = window_or dials_at 6 4 (first_words k) (omega arith) ∙ word_zero k 5 (λ e. omega arith) (λ e. omega arith);
      most_bytes = window_or dials_at 6 5 (first_words k) (omega arith) ∙ word_zero k 6 (λ e. omega arith) (λ e. omega arith);
    }

count_some : (xs : List Slot) → length (map some xs) ≡ length xs
count_some [] = refl
count_some (x ∷ xs) = ap suc (count_some xs)

slot_window : (r n : ℕ) (slots : List Slot) (x : Slot) → drop r slots ≡ replicate n x → window r n (map some slots) ≡ replicate n (some x)
slot_window r n slots x e = ap (take n) (drop-map some r slots ∙ (ap (map some) e ∙ map_replicate some n x)) ∙ take-replicate n n (some x) (omega arith)

pub first_count : (r : ℕ) → 1 ≤ r → length (first_homes r) ≡ r + 1
first_count r one = let a = length-append (replicate (r - 1) no_record) (book_place r ∷ []) in let b : length (replicate (r - 1) no_record) ≡ r - 1 = length-replicate (r - 1) no_record in omega arith

pub first_length : (k : Fixed) → length (first_words k) ≡ table_words k.layout
first_length k = length-set (set (replicate (table_words k.layout) 0) 1 k.tunables.mmap_threshold) 2 k.tunables.trim_threshold ∙ (length-set (replicate (table_words k.layout) 0) 1 k.tunables.mmap_threshold ∙ length-replicate (table_words k.layout) 0)

pub front_part : {A : Type 0} (n : ℕ) (xs ys : List A) → length xs ≡ n → take n (xs ++ ys) ≡ xs
front_part zero [] ys e = refl
front_part zero (x ∷ xs) ys e = absurd (omega (arith, e))
front_part (suc n) [] ys e = absurd (omega (arith, e))
front_part (suc n) (x ∷ xs) ys e = ap (λ t. x ∷ t) (front_part n xs ys (omega (arith, e)))

pub rest_part : {A : Type 0} (n : ℕ) (xs ys : List A) → length xs ≡ n → drop n (xs ++ ys) ≡ ys
rest_part zero [] ys e = refl
rest_part zero (x ∷ xs) ys e = absurd (omega (arith, e))
rest_part (suc n) [] ys e = absurd (omega (arith, e))
rest_part (suc n) (x ∷ xs) ys e = rest_part n xs ys (omega (arith, e))

pub same_count : {A B : Type 0} (f : A → B) (xs : List A) → length (map f xs) ≡ length xs
same_count f [] = refl
same_count f (x ∷ xs) = ap suc (same_count f xs)

pub starts : (k : Fixed) (slots : List Slot) → IsOpening k → AreFirst k.layout.records slots → Lawful k (opening (first_words k) slots (opener k))
starts k slots o first =
    let r = k.layout.records in
    let one = o.laid.records.0 in
    let most = o.laid.records.1 in
    let tc = tray_count_is in
    let locks = window locks_at (r + 1) (first_words k) in (
      record { last = first_homes r; trays = replicate tray_count Vacant; chains = replicate (10 * r) []; own = replicate (10 * r) [] },
      record {
        wide = (first_length k, count_some slots ∙ first.count);
        homes = homes_start k slots locks o first (λ a. ap (λ (ws : List ℕ). get_or ws a 0) (word_window k locks_at (r + 1) (omega arith) (omega arith)) ∙ zero_or (r + 1) a);
        trays = moved2 (λ ws ss. Trays (replicate tray_count Vacant) ws ss (trays_of (opener k) ∷ [])) _ _ _ _ (word_window k (trays_at k.layout) tray_count (omega arith) (omega arith)) (slot_window (r + 1) tray_count slots (tray_slot None) first.trays) (trays_start tray_count (trays_of (opener k)) refl refl refl refl refl);
        dials = dials_start k tray_count (window dials_at 6 (first_words k)) (dial_words k);
        chains = subst (λ (ws : List ℕ). Chains k.layout (replicate (10 * r) []) (replicate (10 * r) []) (first_homes r) locks ws (window (links_at k.layout) (link_words k.layout) (first_words k)) (chains_of (opener k) ∷ [])) (sym (word_window k (heads_at k.layout) (10 * r) (omega arith) (omega arith)))
            (chains_start k locks (window (links_at k.layout) (link_words k.layout) (first_words k)) one);
        places = places_start k tray_count (10 * r) one;
        fixed = λ p v e alive. ap (λ (w : ViewValue). w.fixed) (sym (only p (opener k) v e).1);
        spent = λ p v e silent. absurd (let z : 1 ≡ 0 = ap (λ (w : ViewValue). length w.homes.speaks) (only p (opener k) v e).1 ∙ ap (λ (l : List ℕ). length l) silent in omega arith);
        held = λ j t e. subst (IsTrayed r) (at_replicate tray_count j Vacant t e).1 tt;
        few = omega arith;
        laid = o.laid;
        records = o.records;
        counts = (first_count r one, length-replicate tray_count Vacant, length-replicate (10 * r) [], length-replicate (10 * r) []);
      },
    )
