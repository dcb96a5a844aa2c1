-- Places where a hold begins or ends, and where a pass is made.
use Rattle.std.proofs.Common.{◌-◌, ◌≡◌, ◌≢◌, ℕ, zero, suc, ◌+◌, ◌<◌, ◌≤◌, ⊎_elim, List, [], ◌∷◌, ◌++◌, length, get_or, set, sym, refl, ap, ◌∙◌, arith, Option as Maybe, Some, None, subst, Bool, true, false, ◌&&◌, not, true≢false, cond, get_or-set_other, get_or-set_same, nat_eq, nat_le, eq-eqb, ne_eqb, if◌then◌else◌}
use Rattle.std.specs.Prelude.{count_by}
use Rattle.std.proofs.lemmas.List.Sums.{sum_by-cons}
use Rattle.std.proofs.lemmas.Bool.Decides.{nat_tests}
use Rattle.std.proofs.lemmas.Option.{none-some}
use mathlib.Core.Logic.{dite}
use native.Mathlib.Decide.{ℕ_discrete}
use mathlib.Core.Option.{some, some-injective, some-ne-none}
use lib.ListN.{get_elem?}
use Rattle.atomic_table.proofs.Lists.{at_set}
use Rattle.chunk_tags.specs.declared.block.Block.{Block}
use Rattle.chunk_tags.specs.declared.tiles.Chunk.{Chunk}
use Rattle.chunk_tags.specs.declared.tiles.Tile.{Tile}
use Rattle.chunk_tags.specs.BinOrder.{same_chunk}
use Rattle.chunk_tags.specs.Tiles.{is_used}
use Rattle.arena_rules.specs.PlainArena.{IsSound, is_chunk}
use Rattle.arena_rules.proofs.Counts.{at_most_once}
use Rattle.arena_core.specs.KeptArenas.{KeptArena}
use Rattle.board_types.specs.Views.{HomeValue, Taken, PlacesView, no_places}
use Rattle.board_types.specs.Weights.{weigh, each}
use Rattle.board_types.specs.Homes.{no_home}
use Rattle.board_types.specs.Trays.{Tray}
use Rattle.board_types.specs.Chains.{times_own, once_own, in_lists, in_gathered, own_chunk}
use Rattle.board_types.specs.Dials.{full, in_a_hand}
use Rattle.board_types.specs.Places.{Places, Sight, has, pends, as_chunk_of, times_in, used_of, used_in, used_at, is_other, of_others, own_tiles, used_tiles, chunk_of, block_at, tiles_in, is_free_of_others, mine_after, given_back, KeepsOthers}
use Rattle.board_types.proofs.Lists.{inside, Some_inj, at_end}
use Rattle.board_types.proofs.Weigh.{weigh_set, weigh_more, weigh_at}
use Rattle.board_types.specs.Views.{hold_of}

-- ---- counts

abbrev one_if : Bool → ℕ
one_if b = if b then 1 else 0

-- the used tiles that are this chunk
abbrev used_sum : Chunk → List Tile → ℕ
used_sum c ts = count_by (λ t. is_used t && is_chunk c t) ts

abbrev used_here : Chunk → Tile → ℕ
used_here c t = cond (is_used t && is_chunk c t) 1 0

used_cons : (c : Chunk) (t : Tile) (ts : List Tile) → used_sum c (t ∷ ts) ≡ used_here c t + used_sum c ts
used_cons c t ts = sum_by-cons (used_here c) t ts

and_is : (b d : Bool) → (b && d) ≡ true → (b ≡ true) × (d ≡ true)
and_is true d e = (refl, e)
and_is false d e = absurd (true≢false (sym e))

eq_is : (n m : ℕ) → nat_eq n m ≡ true → n ≡ m
eq_is n m e = dite (ℕ_discrete n m) (λ y. y) (λ no. absurd (true≢false (sym e ∙ ne_eqb n m no)))

same_is : (c d : Chunk) → same_chunk c d ≡ true → c ≡ d
same_is c d e = let b = and_is (nat_eq c.at d.at) (nat_eq c.size d.size) e in let f = eq_is c.at d.at b.0 in let g = eq_is c.size d.size b.1 in λ i. record { at = f i; size = g i }

-- a list that passes what a test lets through
listed_head : (u fc ft s : Bool) (n m : ℕ) → (s ≡ true → fc ≡ ft) → m ≡ (if fc then n else 0) → (if u && ft then one_if s + m else m) ≡ (if fc then cond (u && s) 1 0 + n else 0)
listed_head true true true s n m same e = let z : one_if s ≡ cond s 1 0 = refl in omega arith
listed_head true true false true n m same e = absurd (true≢false (same refl))
listed_head true true false false n m same e = let z : m ≡ n = e in omega arith
listed_head true false true true n m same e = absurd (true≢false (sym (same refl)))
listed_head true false true false n m same e = let z : m ≡ 0 = e in omega arith
listed_head true false false s n m same e = e
listed_head false true ft s n m same e = let z : m ≡ n = e in omega arith
listed_head false false ft s n m same e = e

weigh_if : {A : Type 0} (h : A → ℕ) (b : Bool) (x : A) (xs : List A) → weigh h (if b then x ∷ xs else xs) ≡ (if b then h x + weigh h xs else weigh h xs)
weigh_if h true x xs = refl
weigh_if h false x xs = refl

block_here : (a : ℕ) (c : Chunk) (t : Tile) → as_chunk_of a c (block_at a t) ≡ one_if (is_chunk c t)
block_here a c t = rw (eq-eqb a a refl) (by (is_chunk c t)) where
  by : (b : Bool) → one_if (b && true) ≡ one_if b
  by true = refl
  by false = refl

own_here : (a : ℕ) (c : Chunk) (t : Tile) → once_own a c (own_chunk a (chunk_of t)) ≡ one_if (is_chunk c t)
own_here a c t = rw (eq-eqb a a refl) refl

abbrev picked : Bool → ℕ → ℕ
picked b n = if b then n else 0

picked_none : (b : Bool) → picked b 0 ≡ 0
picked_none true = refl
picked_none false = refl

own_count : (f : Chunk → Bool) (a : ℕ) (c : Chunk) (ts : List Tile) → times_in a c (own_tiles f a ts) ≡ (if f c then used_sum c ts else 0)
own_count f a c [] = sym (picked_none (f c))
own_count f a c (t ∷ ts) =
    weigh_if (as_chunk_of a c) (is_used t && f (chunk_of t)) (block_at a t) (own_tiles f a ts)
    ∙ (ap (λ (n : ℕ). if is_used t && f (chunk_of t) then n + times_in a c (own_tiles f a ts) else times_in a c (own_tiles f a ts)) (block_here a c t)
    ∙ (listed_head (is_used t) (f c) (f (chunk_of t)) (is_chunk c t) (used_sum c ts) _ (λ s. ap f (same_is c (chunk_of t) s)) (own_count f a c ts)
    ∙ ap (λ (n : ℕ). if f c then n else 0) (sym (used_cons c t ts))))

used_count : (f : Chunk → Bool) (a : ℕ) (c : Chunk) (ts : List Tile) → times_own a c (used_tiles f a ts) ≡ (if f c then used_sum c ts else 0)
used_count f a c [] = sym (picked_none (f c))
used_count f a c (t ∷ ts) =
    weigh_if (once_own a c) (is_used t && f (chunk_of t)) (own_chunk a (chunk_of t)) (used_tiles f a ts)
    ∙ (ap (λ (n : ℕ). if is_used t && f (chunk_of t) then n + times_own a c (used_tiles f a ts) else times_own a c (used_tiles f a ts)) (own_here a c t)
    ∙ (listed_head (is_used t) (f c) (f (chunk_of t)) (is_chunk c t) (used_sum c ts) _ (λ s. ap f (same_is c (chunk_of t) s)) (used_count f a c ts)
    ∙ ap (λ (n : ℕ). if f c then n else 0) (sym (used_cons c t ts))))

none_head : (b : Bool) (n m : ℕ) → n ≡ 0 → m ≡ 0 → (if b then n + m else m) ≡ 0
none_head true n m e f = omega arith
none_head false n m e f = f

and_false : (b : Bool) → one_if (b && false) ≡ 0
and_false true = refl
and_false false = refl

own_none : (f : Chunk → Bool) (n a : ℕ) (c : Chunk) (ts : List Tile) → n ≢ a → times_in n c (own_tiles f a ts) ≡ 0
own_none f n a c [] ne = refl
own_none f n a c (t ∷ ts) ne = weigh_if (as_chunk_of n c) (is_used t && f (chunk_of t)) (block_at a t) (own_tiles f a ts)
    ∙ none_head (is_used t && f (chunk_of t)) _ _ (rw (ne_eqb a n (λ z. ne (sym z))) (and_false (is_chunk c t))) (own_none f n a c ts ne)

used_none : (f : Chunk → Bool) (n a : ℕ) (c : Chunk) (ts : List Tile) → n ≢ a → times_own n c (used_tiles f a ts) ≡ 0
used_none f n a c [] ne = refl
used_none f n a c (t ∷ ts) ne = weigh_if (once_own n c) (is_used t && f (chunk_of t)) (own_chunk a (chunk_of t)) (used_tiles f a ts)
    ∙ none_head (is_used t && f (chunk_of t)) _ _ (rw (ne_eqb a n (λ z. ne (sym z))) refl) (used_none f n a c ts ne)

-- blocks of other arenas
abbrev one_of : Bool → Maybe ℕ → ℕ → ℕ
one_of s o n = one_if (s && (elim o [ None ↦ false | Some m ↦ nat_eq m n ]))

abbrev other_of : Maybe ℕ → ℕ → Bool
other_of o a = elim o [ None ↦ true | Some m ↦ not (nat_eq m a) ]

not_here : (s : Bool) (o : Maybe ℕ) (a : ℕ) → other_of o a ≡ true → one_of s o a ≡ 0
not_here s None a e = and_false s
not_here s (Some m) a e = by (nat_eq m a) e where
  by : (b : Bool) → not b ≡ true → one_if (s && b) ≡ 0
  by true e = absurd (true≢false (sym e))
  by false e = and_false s

not_else : (s : Bool) (o : Maybe ℕ) (n a : ℕ) → n ≢ a → other_of o a ≡ false → one_of s o n ≡ 0
not_else s None n a ne e = absurd (true≢false e)
not_else s (Some m) n a ne e = dite (ℕ_discrete m a)
    (λ is. rw (ne_eqb m n (λ z. ne (sym z ∙ is))) (and_false s))
    (λ no_a. absurd (true≢false (let z : true ≡ false = sym (ap not (ne_eqb m a no_a)) ∙ e in z)))

skip_here : (b : Bool) (n m : ℕ) → (b ≡ true → n ≡ 0) → m ≡ 0 → (if b then n + m else m) ≡ 0
skip_here true n m z e = let y = z refl in omega arith
skip_here false n m z e = e

skip_else : (b : Bool) (n m k : ℕ) → (b ≡ false → n ≡ 0) → m ≡ k → (if b then n + m else m) ≡ n + k
skip_else true n m k z e = ap (λ (i : ℕ). n + i) e
skip_else false n m k z e = let y = z refl in omega arith

others_here : (a : ℕ) (c : Chunk) (bs : List Block) → times_in a c (of_others a bs) ≡ 0
others_here a c [] = refl
others_here a c (b ∷ bs) = weigh_if (as_chunk_of a c) (is_other a b) b (of_others a bs) ∙ skip_here (is_other a b) _ _ (not_here (same_chunk c (record { at = b.addr; size = b.size })) b.arena a) (others_here a c bs)

others_else : (n a : ℕ) (c : Chunk) (bs : List Block) → n ≢ a → times_in n c (of_others a bs) ≡ times_in n c bs
others_else n a c [] ne = refl
others_else n a c (b ∷ bs) ne = weigh_if (as_chunk_of n c) (is_other a b) b (of_others a bs) ∙ skip_else (is_other a b) _ _ _ (not_else (same_chunk c (record { at = b.addr; size = b.size })) b.arena n a ne) (others_else n a c bs ne)

-- ---- sums over the views

pub weigh_only : {A : Type 0} (f : A → ℕ) (xs : List A) (p : ℕ) (v : A) → get_elem? xs p ≡ some v → ((q : ℕ) (u : A) → get_elem? xs q ≡ some u → q ≢ p → f u ≡ 0) → weigh f xs ≡ f v
weigh_only f [] p v e h = absurd (some-ne-none v (sym e))
weigh_only f (x ∷ xs) zero v e h = let a : f x ≡ f v = ap f (some-injective x v e) in let b = weigh_none f xs (λ q u g. h (suc q) u g (λ z. omega arith)) in omega arith
  where
    weigh_none : {A : Type 0} (f : A → ℕ) (xs : List A) → ((q : ℕ) (u : A) → get_elem? xs q ≡ some u → f u ≡ 0) → weigh f xs ≡ 0
    weigh_none f [] h = refl
    weigh_none f (x ∷ xs) h = let a = h 0 x refl in let b = weigh_none f xs (λ q u g. h (suc q) u g) in omega arith
weigh_only f (x ∷ xs) (suc p) v e h = let a = h 0 x refl (λ z. omega arith) in let b = weigh_only f xs p v e (λ q u g ne. h (suc q) u g (λ z. ne (omega (arith, z)))) in omega arith

used_set : (last : List HomeValue) (a n : ℕ) (y : HomeValue) (c : Chunk) → n ≢ a → used_at (set last a y) n c ≡ used_at last n c
used_set last a n y c ne = ap (λ (x : HomeValue). used_in x c) (get_or-set_other last a n y no_home ne)

used_now : (last : List HomeValue) (a : ℕ) (y : HomeValue) (c : Chunk) → a < length last → used_at (set last a y) a c ≡ used_in y c
used_now last a y c l = ap (λ (x : HomeValue). used_in x c) (get_or-set_same last a y no_home l)

tiles_used : (o : Maybe KeptArena) (c : Chunk) → used_sum c (tiles_in o) ≡ used_of o c
tiles_used None c = refl
tiles_used (Some k) c = refl

-- ---- a hold begins: what the view has is the same

abbrev pub begins : Sight → ℕ → HomeValue → Sight
begins v a x = record v { holds = Some (hold_of a x); gathered = [] }

pub none_of : (a : ℕ) (c : Chunk) (held : Maybe Taken) → in_gathered a c held [] ≡ 0
none_of a c None = refl
none_of a c (Some h) = refl

pub places_lock : (last : List HomeValue) (chains own : List (List ℕ)) (trays : List Tray) (views : List Sight) (p a : ℕ) (x : HomeValue) (v : Sight)
    → Places last chains own trays views → get_elem? views p ≡ some v → v.holds ≡ None → Places last chains own trays (set views p (begins v a x))
places_lock last chains own trays views p a x v h at free = let w = begins v a x in
    let same : (n : ℕ) (c : Chunk) → has n c w ≡ has n c v = (λ n c. let z : in_gathered n c v.holds v.gathered ≡ 0 = ap (λ (m : Maybe Taken). in_gathered n c m v.gathered) free in omega arith) in record {
      one_place = λ n c. let g = weigh_set (has n c) views p v w at in let f = weigh_set (pends n c) views p v w at in let s = same n c in let o = h.one_place n c in omega arith;
      once = λ n c. let f = weigh_set (pends n c) views p v w at in let o = h.once n c in omega arith;
      changed = λ n c. let f = weigh_set (λ (u : Sight). times_own n c u.places.made) views p v w at in let g = weigh_set (λ (u : Sight). times_own n c u.places.unmade) views p v w at in let o = h.changed n c in omega arith;
      pending = λ q n c u e l. ⊎_elim
          (λ t. let old = h.pending p n c v at (subst (λ (m : Sight). 0 < pends n c m) (sym t.1) l) in absurd (none-some (hold_of n old.0) (sym free ∙ old.1)))
          (λ t. h.pending q n c u t.1 l)
          (at_set views p q w u e);
    }

-- ---- a hold ends: the holder has what nobody else has

abbrev pub finishes : Sight → ℕ → HomeValue → HomeValue → Sight
finishes v a x y = record v { places = given_back a x y v.places; holds = None; gathered = [] }

le_is : (n m : ℕ) (b : Bool) → nat_le n m ≡ b → (b ≡ true → n ≤ m) × (b ≡ false → m < n)
le_is n m b e = ((λ t. let z : nat_le n m ≡ true = e ∙ t in grind (arith, nat_tests)), (λ f. let z : nat_le n m ≡ false = e ∙ f in grind (arith, nat_tests)))

eq_zero : (n : ℕ) (b : Bool) → nat_eq n 0 ≡ b → (b ≡ true → n ≡ 0) × (b ≡ false → 0 < n)
eq_zero n b e = ((λ t. eq_is n 0 (e ∙ t)), (λ f. let z : nat_eq n 0 ≡ false = e ∙ f in grind (arith, nat_tests)))

-- what is left to the pass, by whether others have the chunk
left_over : (b : Bool) (all rest_all mine hand trays ux uy pend mine' : ℕ) → (b ≡ true → ux + pend ≤ mine) → (b ≡ false → mine < ux + pend) → mine' ≡ picked b uy
    → all + trays ≡ ux + pend → mine + hand ≤ all → rest_all + (mine + hand) ≡ all + (mine' + hand) → ux + pend ≤ mine + uy → uy ≤ 1 → rest_all + trays ≡ uy
left_over true all rest_all mine hand trays ux uy pend mine' fits no_fit is total le moved keeps one = let f = fits refl in omega arith
left_over false all rest_all mine hand trays ux uy pend mine' fits no_fit is total le moved keeps one = let f = no_fit refl in omega arith

-- made and unmade by one hold
both_changes : (b d : Bool) (made unmade made' unmade' ux uy : ℕ) → (b ≡ true → ux ≡ 0) → (b ≡ false → 0 < ux) → (d ≡ true → uy ≡ 0) → (d ≡ false → 0 < uy) → ux ≤ 1 → uy ≤ 1
    → made ≡ ux + unmade → made' ≡ made + picked b uy → unmade' ≡ unmade + picked d ux → made' ≡ uy + unmade'
both_changes true true made unmade made' unmade' ux uy b1 b0 d1 d0 l m o p q = let f = b1 refl in let g = d1 refl in omega arith
both_changes true false made unmade made' unmade' ux uy b1 b0 d1 d0 l m o p q = let f = b1 refl in let g = d0 refl in omega arith
both_changes false true made unmade made' unmade' ux uy b1 b0 d1 d0 l m o p q = let f = b0 refl in let g = d1 refl in omega arith
both_changes false false made unmade made' unmade' ux uy b1 b0 d1 d0 l m o p q = let f = b0 refl in let g = d0 refl in omega arith

-- an arena that is sound has each chunk once
pub used_once : (o : Maybe KeptArena) (c : Chunk) → ((k : KeptArena) → o ≡ Some k → IsSound k.arena) → used_of o c ≤ 1
used_once None c h = omega arith
used_once (Some k) c h = let s = h k refl in at_most_once is_used c k.arena.tiles s.row

not_some : (n : ℕ) → (0 < n → ⊥) → n ≡ 0
not_some zero h = refl
not_some (suc n) h = absurd (h (omega arith))

pub places_unlock : (last : List HomeValue) (chains own : List (List ℕ)) (trays : List Tray) (views : List Sight) (p a : ℕ) (x y : HomeValue) (v : Sight)
    → Places last chains own trays views → get_elem? views p ≡ some v → v.holds ≡ Some (hold_of a x) → v.gathered ≡ [] → get_elem? last a ≡ some x → get_or last a no_home ≡ x
    → ((q : ℕ) (u : Sight) (z : HomeValue) → get_elem? views q ≡ some u → u.holds ≡ Some (hold_of a z) → q ≡ p)
    → KeepsOthers a x y v.places → ((k : KeptArena) → x.arena ≡ Some k → IsSound k.arena) → ((k : KeptArena) → y.arena ≡ Some k → IsSound k.arena)
    → Places (set last a y) chains own trays (set views p (finishes v a x y))
places_unlock last chains own trays views p a x y v h at has_it joined there here alone keeps sound_x sound_y =
    let w = finishes v a x y in
    let in_last = inside last a x there in
    let mine_p = v.places.mine in
    let free = is_free_of_others a x v.places in
    let ux_is : (c : Chunk) → used_at last a c ≡ used_in x c = (λ c. ap (λ (z : HomeValue). used_in z c) here) in
    let uy1 : (c : Chunk) → used_in y c ≤ 1 = (λ c. used_once y.arena c sound_y) in
    let ux1 : (c : Chunk) → used_in x c ≤ 1 = (λ c. used_once x.arena c sound_x) in
    let no_taken : (n : ℕ) (c : Chunk) → in_gathered n c v.holds v.gathered ≡ 0 = (λ n c. ap (in_gathered n c v.holds) joined ∙ none_of n c v.holds) in
    let other_pend : (n : ℕ) (c : Chunk) → n ≢ a → pends n c v ≡ 0 = (λ n c ne. not_some (pends n c v) (λ l. let o = h.pending p n c v at l in ne (ap (λ (t : Taken). t.home) (Some_inj (hold_of n o.0) (hold_of a x) (sym o.1 ∙ has_it))))) in
    let alone_pend : (c : Chunk) → weigh (pends a c) views ≡ pends a c v = (λ c. weigh_only (pends a c) views p v at (λ q u e ne. not_some (pends a c u) (λ l. let o = h.pending q a c u e l in ne (alone q u o.0 e o.1)))) in
    let mine_a : (c : Chunk) → times_in a c (mine_after a x y v.places) ≡ picked (free c) (used_in y c) = (λ c.
    weigh_more (as_chunk_of a c) (own_tiles free a (tiles_in y.arena)) (of_others a mine_p)
    ∙ (let z1 = own_count free a c (tiles_in y.arena) ∙ ap (picked (free c)) (tiles_used y.arena c) in let z2 = others_here a c mine_p in omega arith)) in
    let mine_n : (n : ℕ) (c : Chunk) → n ≢ a → times_in n c (mine_after a x y v.places) ≡ times_in n c mine_p = (λ n c ne.
    weigh_more (as_chunk_of n c) (own_tiles free a (tiles_in y.arena)) (of_others a mine_p)
    ∙ (let z1 = own_none free n a c (tiles_in y.arena) ne in let z2 = others_else n a c mine_p ne in omega arith)) in
    let new_made = used_tiles (λ c. nat_eq (used_in x c) 0) a (tiles_in y.arena) in
    let new_unmade = used_tiles (λ c. nat_eq (used_in y c) 0) a (tiles_in x.arena) in
    let made_a : (c : Chunk) → times_own a c new_made ≡ picked (nat_eq (used_in x c) 0) (used_in y c) = (λ c. used_count (λ d. nat_eq (used_in x d) 0) a c (tiles_in y.arena) ∙ ap (picked (nat_eq (used_in x c) 0)) (tiles_used y.arena c)) in
    let unmade_a : (c : Chunk) → times_own a c new_unmade ≡ picked (nat_eq (used_in y c) 0) (used_in x c) = (λ c. used_count (λ d. nat_eq (used_in y d) 0) a c (tiles_in x.arena) ∙ ap (picked (nat_eq (used_in y c) 0)) (tiles_used x.arena c)) in record {
      one_place = λ n c. dite (ℕ_discrete n a)
          (λ is. subst (λ (m : ℕ). weigh (has m c) (set views p w) + (each (full (as_chunk_of m c)) 0 trays + (in_lists m c 0 chains + in_lists m c 0 own)) ≡ used_at (set last a y) m c + weigh (pends m c) (set views p w)) (sym is)
          (let g = weigh_set (has a c) views p v w at in let f = weigh_set (pends a c) views p v w at in let o = h.one_place a c in
          let le = weigh_at (has a c) views p v at in let al = alone_pend c in let ux = ux_is c in let nt = no_taken a c in
          let is_free = le_is (used_in x c + times_own a c v.places.pending) (times_in a c mine_p) (free c) refl in
          let hand = in_a_hand (as_chunk_of a c) v.hand in
          let trays_all = each (full (as_chunk_of a c)) 0 trays + (in_lists a c 0 chains + in_lists a c 0 own) in
          let total : weigh (has a c) views + trays_all ≡ used_in x c + times_own a c v.places.pending = omega arith in
          let le' : times_in a c mine_p + hand ≤ weigh (has a c) views = omega arith in
          let moved : weigh (has a c) (set views p w) + (times_in a c mine_p + hand) ≡ weigh (has a c) views + (times_in a c (mine_after a x y v.places) + hand) = omega arith in
          let left = left_over (free c) (weigh (has a c) views) (weigh (has a c) (set views p w)) (times_in a c mine_p) hand trays_all (used_in x c) (used_in y c) (times_own a c v.places.pending) (times_in a c (mine_after a x y v.places)) is_free.0 is_free.1 (mine_a c) total le' moved (keeps.used c) (uy1 c) in
          let now = used_now last a y c in_last in
          omega arith))
          (λ not. let g = weigh_set (has n c) views p v w at in let f = weigh_set (pends n c) views p v w at in let o = h.one_place n c in let u = used_set last a n y c not in let m = mine_n n c not in let z = other_pend n c not in let nt = no_taken n c in omega arith);
      once = λ n c. dite (ℕ_discrete n a)
          (λ is. subst (λ (m : ℕ). used_at (set last a y) m c + weigh (pends m c) (set views p w) ≤ 1) (sym is)
          (let f = weigh_set (pends a c) views p v w at in let al = alone_pend c in let now = used_now last a y c in_last in let one = uy1 c in omega arith))
          (λ not. let f = weigh_set (pends n c) views p v w at in let o = h.once n c in let u = used_set last a n y c not in let z = other_pend n c not in omega arith);
      changed = λ n c. dite (ℕ_discrete n a)
          (λ is. subst (λ (m : ℕ). weigh (λ (u : Sight). times_own m c u.places.made) (set views p w) ≡ used_at (set last a y) m c + weigh (λ (u : Sight). times_own m c u.places.unmade) (set views p w)) (sym is)
          (let f = weigh_set (λ (u : Sight). times_own a c u.places.made) views p v w at in let g = weigh_set (λ (u : Sight). times_own a c u.places.unmade) views p v w at in let o = h.changed a c in let ux = ux_is c in
          let m1 = weigh_more (once_own a c) v.places.made new_made in let m2 = weigh_more (once_own a c) v.places.unmade new_unmade in let ma = made_a c in let ua = unmade_a c in
          let bx = eq_zero (used_in x c) (nat_eq (used_in x c) 0) refl in let by = eq_zero (used_in y c) (nat_eq (used_in y c) 0) refl in
          let made = weigh (λ (u : Sight). times_own a c u.places.made) views in let unmade = weigh (λ (u : Sight). times_own a c u.places.unmade) views in
          let made' = weigh (λ (u : Sight). times_own a c u.places.made) (set views p w) in let unmade' = weigh (λ (u : Sight). times_own a c u.places.unmade) (set views p w) in
          let old : made ≡ used_in x c + unmade = omega arith in
          let more : made' ≡ made + picked (nat_eq (used_in x c) 0) (used_in y c) = omega arith in
          let more' : unmade' ≡ unmade + picked (nat_eq (used_in y c) 0) (used_in x c) = omega arith in
          let b = both_changes (nat_eq (used_in x c) 0) (nat_eq (used_in y c) 0) made unmade made' unmade' (used_in x c) (used_in y c) bx.0 bx.1 by.0 by.1 (ux1 c) (uy1 c) old more more' in
          let now = used_now last a y c in_last in omega arith))
          (λ not. let f = weigh_set (λ (u : Sight). times_own n c u.places.made) views p v w at in let g = weigh_set (λ (u : Sight). times_own n c u.places.unmade) views p v w at in let o = h.changed n c in let u = used_set last a n y c not in
          let m1 = weigh_more (once_own n c) v.places.made new_made in let m2 = weigh_more (once_own n c) v.places.unmade new_unmade in
          let z1 = used_none (λ d. nat_eq (used_in x d) 0) n a c (tiles_in y.arena) not in let z2 = used_none (λ d. nat_eq (used_in y d) 0) n a c (tiles_in x.arena) not in omega arith);
      pending = λ q n c u e l. ⊎_elim
          (λ t. absurd (let z : pends n c u ≡ 0 = ap (pends n c) (sym t.1) in omega arith))
          (λ t. h.pending q n c u t.1 l)
          (at_set views p q w u e);
    }

-- one more pass, which has nothing
pub places_newcomer : (last : List HomeValue) (chains own : List (List ℕ)) (trays : List Tray) (views : List Sight) (r : Sight) → Places last chains own trays views
    → r ≡ record { places = no_places; hand = None; holds = None; gathered = [] } → Places last chains own trays (views ++ r ∷ [])
places_newcomer last chains own trays views r h is_r =
    let none_has : (n : ℕ) (c : Chunk) → has n c r ≡ 0 = (λ n c. ap (has n c) is_r) in
    let none_pend : (n : ℕ) (c : Chunk) → pends n c r ≡ 0 = (λ n c. ap (pends n c) is_r) in record {
      one_place = λ n c. let g = weigh_more (has n c) views (r ∷ []) in let f = weigh_more (pends n c) views (r ∷ []) in let a = none_has n c in let b = none_pend n c in let o = h.one_place n c in omega arith;
      once = λ n c. let f = weigh_more (pends n c) views (r ∷ []) in let b = none_pend n c in let o = h.once n c in omega arith;
      changed = λ n c. let f = weigh_more (λ (u : Sight). times_own n c u.places.made) views (r ∷ []) in let g = weigh_more (λ (u : Sight). times_own n c u.places.unmade) views (r ∷ []) in
          let a : times_own n c r.places.made ≡ 0 = ap (λ (u : Sight). times_own n c u.places.made) is_r in let b : times_own n c r.places.unmade ≡ 0 = ap (λ (u : Sight). times_own n c u.places.unmade) is_r in let o = h.changed n c in omega arith;
      pending = λ q n c u e l. ⊎_elim
          (λ o. h.pending q n c u o l)
          (λ t. absurd (let z : pends n c u ≡ 0 = ap (pends n c) (sym t.1) ∙ none_pend n c in omega arith))
          (at_end views r u q e);
    }

-- ---- how often the pass has a chunk then

pub mine_here : (a : ℕ) (x y : HomeValue) (v : PlacesView) (c : Chunk) → times_in a c (mine_after a x y v) ≡ picked (is_free_of_others a x v c) (used_in y c)
mine_here a x y v c = let free = is_free_of_others a x v in
    weigh_more (as_chunk_of a c) (own_tiles free a (tiles_in y.arena)) (of_others a v.mine)
    ∙ (let z1 = own_count free a c (tiles_in y.arena) ∙ ap (picked (free c)) (tiles_used y.arena c) in let z2 = others_here a c v.mine in omega arith)

pub mine_else : (n a : ℕ) (x y : HomeValue) (v : PlacesView) (c : Chunk) → n ≢ a → times_in n c (mine_after a x y v) ≡ times_in n c v.mine
mine_else n a x y v c ne = let free = is_free_of_others a x v in
    weigh_more (as_chunk_of n c) (own_tiles free a (tiles_in y.arena)) (of_others a v.mine)
    ∙ (let z1 = own_none free n a c (tiles_in y.arena) ne in let z2 = others_else n a c v.mine ne in omega arith)

-- with what others have it is what is used
pub mine_with_others : (a : ℕ) (x y : HomeValue) (v : PlacesView) (c : Chunk) → times_in a c v.mine ≤ used_in x c + times_own a c v.pending → used_in x c + times_own a c v.pending ≤ 1 → used_in y c ≤ 1
    → used_in x c + times_own a c v.pending ≤ times_in a c v.mine + used_in y c → times_in a c (mine_after a x y v) + ((used_in x c + times_own a c v.pending) - times_in a c v.mine) ≡ used_in y c
mine_with_others a x y v c backed one one_y keeps = by (is_free_of_others a x v c) (le_is (used_in x c + times_own a c v.pending) (times_in a c v.mine) (is_free_of_others a x v c) refl) (mine_here a x y v c) where
  by : (b : Bool) → ((b ≡ true → used_in x c + times_own a c v.pending ≤ times_in a c v.mine) × (b ≡ false → times_in a c v.mine < used_in x c + times_own a c v.pending)) → times_in a c (mine_after a x y v) ≡ picked b (used_in y c)
      → times_in a c (mine_after a x y v) + ((used_in x c + times_own a c v.pending) - times_in a c v.mine) ≡ used_in y c
  by true is m = let l = is.0 refl in omega arith
  by false is m = let l = is.1 refl in omega arith

-- ---- the book is given back: no chunk changes its place

abbrev pub lets_go : Sight → Sight
lets_go v = record v { holds = None; gathered = [] }

same_used : (last : List HomeValue) (a : ℕ) (x y : HomeValue) (n : ℕ) (c : Chunk) → get_elem? last a ≡ some x → get_or last a no_home ≡ x → used_in y c ≡ used_in x c → used_at (set last a y) n c ≡ used_at last n c
same_used last a x y n c there here same = dite (ℕ_discrete n a)
    (λ is. ap (λ (m : ℕ). used_at (set last a y) m c) is ∙ (used_now last a y c (inside last a x there) ∙ (same ∙ (ap (λ (z : HomeValue). used_in z c) (sym here) ∙ ap (λ (m : ℕ). used_at last m c) (sym is)))))
    (λ not. used_set last a n y c not)

pub places_book : (last : List HomeValue) (chains own : List (List ℕ)) (trays : List Tray) (views : List Sight) (p a : ℕ) (x y : HomeValue) (v : Sight)
    → Places last chains own trays views → get_elem? views p ≡ some v → v.gathered ≡ [] → v.places.pending ≡ [] → get_elem? last a ≡ some x → get_or last a no_home ≡ x → ((c : Chunk) → used_in y c ≡ used_in x c)
    → Places (set last a y) chains own trays (set views p (lets_go v))
places_book last chains own trays views p a x y v h at joined none_pending there here same = let w = lets_go v in
    let has_same : (n : ℕ) (c : Chunk) → has n c w ≡ has n c v = (λ n c. let z : in_gathered n c v.holds v.gathered ≡ 0 = ap (in_gathered n c v.holds) joined ∙ none_of n c v.holds in omega arith) in record {
      one_place = λ n c. let g = weigh_set (has n c) views p v w at in let f = weigh_set (pends n c) views p v w at in let s = has_same n c in let o = h.one_place n c in let u = same_used last a x y n c there here (same c) in omega arith;
      once = λ n c. let f = weigh_set (pends n c) views p v w at in let o = h.once n c in let u = same_used last a x y n c there here (same c) in omega arith;
      changed = λ n c. let f = weigh_set (λ (u : Sight). times_own n c u.places.made) views p v w at in let g = weigh_set (λ (u : Sight). times_own n c u.places.unmade) views p v w at in let o = h.changed n c in let u = same_used last a x y n c there here (same c) in omega arith;
      pending = λ q n c u e l. ⊎_elim
          (λ t. absurd (let z : pends n c u ≡ 0 = ap (pends n c) (sym t.1) ∙ ap (times_own n c) none_pending in omega arith))
          (λ t. h.pending q n c u t.1 l)
          (at_set views p q w u e);
    }
