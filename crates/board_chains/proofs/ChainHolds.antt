-- Chains where a hold begins or ends, and where a pass is made.
use Rattle.std.proofs.Common.{◌≡◌, ◌≢◌, ℕ, ◌+◌, ◌<◌, ◌≤◌, ⊎_elim, List, [], ◌∷◌, ◌++◌, map, length, get_or, set, sym, refl, ap, ◌∙◌, arith, Option as Maybe, Some, None, get_or-set_other, get_or-set_same}
use Rattle.std.proofs.lemmas.Option.{none-some}
use mathlib.Core.Logic.{dite}
use native.Mathlib.Decide.{ℕ_discrete}
use mathlib.Core.Option.{some, some-ne-none}
use lib.ListN.{get_elem?}
use Rattle.atomic_table.proofs.Lists.{at_set, set_here, set_else}
use Rattle.chunk_tags.specs.declared.tiles.Chunk.{Chunk}
use Rattle.board_types.specs.declared.layout.Layout.{Layout}
use Rattle.board_types.specs.Views.{HomeValue, Taken, no_chains}
use Rattle.board_types.specs.Chains.{Chains, Chaining, bins_of, front, in_gathered, times_own}
use Rattle.board_types.specs.Plays.{with_own}
use Rattle.board_types.proofs.Lists.{same_at, Some_inj, at_end}
use Rattle.board_types.proofs.Weigh.{weigh_set, weigh_more}
use Rattle.board_types.specs.Views.{hold_of}

abbrev pub starts_hold : Chaining → ℕ → HomeValue → List (List ℕ) → Chaining
starts_hold v a x ls = (with_own v.0 ls, Some (hold_of a x))

abbrev pub ends_hold : Chaining → Chaining
ends_hold v = (with_own v.0 [], None)

-- of a view that has nothing taken over
pub none_of : (a : ℕ) (c : Chunk) (held : Maybe Taken) → in_gathered a c held [] ≡ 0
none_of a c None = refl
none_of a c (Some h) = refl

pub chains_lock : (k : Layout) (chains own : List (List ℕ)) (last : List HomeValue) (locks heads links : List ℕ) (views : List Chaining) (p a : ℕ) (x : HomeValue) (v : Chaining)
    → Chains k chains own last locks heads links views → a < length locks → get_elem? views p ≡ some v → v.1 ≡ None
    → Chains k chains own last (set locks a (p + 1)) heads links (set views p (starts_hold v a x (bins_of a own)))
chains_lock k chains own last locks heads links views p a x v h in_locks at free =
    let w = starts_hold v a x (bins_of a own) in
    let here = get_or-set_same locks a (p + 1) 0 in_locks in record {
      spelled = h.spelled;
      owned = h.owned;
      fronts = λ b z l e unlocked. dite (ℕ_discrete b a)
          (λ is. absurd (let q : p + 1 ≡ 0 = sym here ∙ (ap (λ (c : ℕ). get_or (set locks a (p + 1)) c 0) (sym is) ∙ unlocked) in omega arith))
          (λ not. h.fronts b z l e (sym (get_or-set_other locks a b (p + 1) 0 not) ∙ unlocked));
      in_hand = λ q b u e held l. ⊎_elim
          (λ t. let same = Some_inj (hold_of a x) (hold_of b held.0) (ap (λ (n : Chaining). n.1) t.1 ∙ held.1) in sym (ap (λ (n : Chaining). n.0.own) t.1) ∙ ap (λ (n : Taken). bins_of n.home own) same)
          (λ t. h.in_hand q b u t.1 held l)
          (at_set views p q w u e);
      gathered = λ q b i cs u e held g. ⊎_elim
          (λ t. absurd (some-ne-none cs (sym (ap (λ (n : Chaining). get_elem? n.0.gathered i) t.1 ∙ g))))
          (λ t. h.gathered q b i cs u t.1 held g)
          (at_set views p q w u e);
      none_gathered = λ q u e none. ⊎_elim
          (λ t. absurd (none-some (hold_of a x) (sym (ap (λ (n : Chaining). n.1) t.1 ∙ none))))
          (λ t. h.none_gathered q u t.1 none)
          (at_set views p q w u e);
      pushed = λ n c.
          let g1 = weigh_set (λ (u : Chaining). times_own n c u.0.pushes) views p v w at in
          let g2 = weigh_set (λ (u : Chaining). times_own n c u.0.pops) views p v w at in
          let g3 = weigh_set (λ (u : Chaining). in_gathered n c u.1 u.0.gathered) views p v w at in
          let z : in_gathered n c v.1 v.0.gathered ≡ 0 = ap (λ (m : Maybe Taken). in_gathered n c m v.0.gathered) free in
          let o = h.pushed n c in omega arith;
      written = λ q n c u e is. ⊎_elim (λ t. absurd (none-some (c, n) (ap (λ (m : Chaining). m.0.written) t.1 ∙ is))) (λ t. h.written q n c u t.1 is) (at_set views p q w u e);
      loaded = λ q l u e is ne held. ⊎_elim (λ t. absurd (none-some l (ap (λ (m : Chaining). m.0.loaded) t.1 ∙ is))) (λ t. h.loaded q l u t.1 is ne held) (at_set views p q w u e);
      next = λ q n l u e is to. ⊎_elim (λ t. absurd (none-some l (ap (λ (m : Chaining). m.0.loaded) t.1 ∙ is))) (λ t. h.next q n l u t.1 is to) (at_set views p q w u e);
      walks = λ q d u e is held. ⊎_elim (λ t. absurd (none-some d (ap (λ (m : Chaining). m.0.walk) t.1 ∙ is))) (λ t. h.walks q d u t.1 is held) (at_set views p q w u e);
      bins = λ q l u e is. ⊎_elim (λ t. absurd (none-some l (ap (λ (m : Chaining). m.0.loaded) t.1 ∙ is))) (λ t. h.bins q l u t.1 is) (at_set views p q w u e);
      walk_bins = λ q d u e is. ⊎_elim (λ t. absurd (none-some d (ap (λ (m : Chaining). m.0.walk) t.1 ∙ is))) (λ t. h.walk_bins q d u t.1 is) (at_set views p q w u e);
    }

pub chains_unlock : (k : Layout) (chains own : List (List ℕ)) (last : List HomeValue) (locks heads links : List ℕ) (views : List Chaining) (p a : ℕ) (x y : HomeValue) (v : Chaining)
    → Chains k chains own last locks heads links views → a < length locks → a < length last → a < k.records → get_elem? views p ≡ some v → v.1 ≡ Some (hold_of a x) → map front v.0.own ≡ y.fronts → v.0.gathered ≡ []
    → Chains k chains own (set last a y) (set locks a 0) heads links (set views p (ends_hold v))
chains_unlock k chains own last locks heads links views p a x y v h in_locks in_last in_records at has fronts joined = let w = ends_hold v in record {
  spelled = h.spelled;
  owned = h.owned;
  fronts = λ b z l e unlocked. dite (ℕ_discrete b a)
      (λ is. let yz : y ≡ z = same_at (set last a y) a y z (set_here last a y in_last) (ap (get_elem? (set last a y)) (sym is) ∙ e) in
      ap (λ (c : ℕ). map front (bins_of c own)) is ∙ (ap (map front) (sym (h.in_hand p a v at (x, has) in_records)) ∙ (fronts ∙ ap (λ (n : HomeValue). n.fronts) yz)))
      (λ not. h.fronts b z l (sym (set_else last a b y not) ∙ e) (sym (get_or-set_other locks a b 0 0 not) ∙ unlocked));
  in_hand = λ q b u e held l. ⊎_elim
      (λ t. absurd (none-some (hold_of b held.0) (ap (λ (n : Chaining). n.1) t.1 ∙ held.1)))
      (λ t. h.in_hand q b u t.1 held l)
      (at_set views p q w u e);
  gathered = λ q b i cs u e held g. ⊎_elim
      (λ t. absurd (some-ne-none cs (sym (ap (λ (n : Chaining). get_elem? n.0.gathered i) t.1 ∙ g))))
      (λ t. h.gathered q b i cs u t.1 held g)
      (at_set views p q w u e);
  none_gathered = λ q u e none. ⊎_elim
      (λ t. sym (ap (λ (n : Chaining). n.0.gathered) t.1))
      (λ t. h.none_gathered q u t.1 none)
      (at_set views p q w u e);
  pushed = λ n c.
      let g1 = weigh_set (λ (u : Chaining). times_own n c u.0.pushes) views p v w at in
      let g2 = weigh_set (λ (u : Chaining). times_own n c u.0.pops) views p v w at in
      let g3 = weigh_set (λ (u : Chaining). in_gathered n c u.1 u.0.gathered) views p v w at in
      let z : in_gathered n c v.1 v.0.gathered ≡ 0 = ap (in_gathered n c v.1) joined ∙ none_of n c v.1 in
      let o = h.pushed n c in omega arith;
  written = λ q n c u e is. ⊎_elim (λ t. absurd (none-some (c, n) (ap (λ (m : Chaining). m.0.written) t.1 ∙ is))) (λ t. h.written q n c u t.1 is) (at_set views p q w u e);
  loaded = λ q l u e is ne held. ⊎_elim (λ t. absurd (none-some l (ap (λ (m : Chaining). m.0.loaded) t.1 ∙ is))) (λ t. h.loaded q l u t.1 is ne held) (at_set views p q w u e);
  next = λ q n l u e is to. ⊎_elim (λ t. absurd (none-some l (ap (λ (m : Chaining). m.0.loaded) t.1 ∙ is))) (λ t. h.next q n l u t.1 is to) (at_set views p q w u e);
  walks = λ q d u e is held. ⊎_elim (λ t. absurd (none-some d (ap (λ (m : Chaining). m.0.walk) t.1 ∙ is))) (λ t. h.walks q d u t.1 is held) (at_set views p q w u e);
  bins = λ q l u e is. ⊎_elim (λ t. absurd (none-some l (ap (λ (m : Chaining). m.0.loaded) t.1 ∙ is))) (λ t. h.bins q l u t.1 is) (at_set views p q w u e);
  walk_bins = λ q d u e is. ⊎_elim (λ t. absurd (none-some d (ap (λ (m : Chaining). m.0.walk) t.1 ∙ is))) (λ t. h.walk_bins q d u t.1 is) (at_set views p q w u e);
}

-- the book is given back
pub chains_book : (k : Layout) (chains own : List (List ℕ)) (last : List HomeValue) (locks heads links : List ℕ) (views : List Chaining) (p a : ℕ) (x y : HomeValue) (v : Chaining)
    → Chains k chains own last locks heads links views → k.records ≤ a → get_elem? views p ≡ some v → v.0.gathered ≡ []
    → Chains k chains own (set last a y) (set locks a 0) heads links (set views p (ends_hold v))
chains_book k chains own last locks heads links views p a x y v h past at joined = let w = ends_hold v in record {
  spelled = h.spelled;
  owned = h.owned;
  fronts = λ b z l e unlocked. let not : b ≢ a = (λ is. omega arith) in h.fronts b z l (sym (set_else last a b y not) ∙ e) (sym (get_or-set_other locks a b 0 0 not) ∙ unlocked);
  in_hand = λ q b u e held l. ⊎_elim
      (λ t. absurd (none-some (hold_of b held.0) (ap (λ (n : Chaining). n.1) t.1 ∙ held.1)))
      (λ t. h.in_hand q b u t.1 held l)
      (at_set views p q w u e);
  gathered = λ q b i cs u e held g. ⊎_elim
      (λ t. absurd (some-ne-none cs (sym (ap (λ (n : Chaining). get_elem? n.0.gathered i) t.1 ∙ g))))
      (λ t. h.gathered q b i cs u t.1 held g)
      (at_set views p q w u e);
  none_gathered = λ q u e none. ⊎_elim
      (λ t. sym (ap (λ (n : Chaining). n.0.gathered) t.1))
      (λ t. h.none_gathered q u t.1 none)
      (at_set views p q w u e);
  pushed = λ n c.
      let g1 = weigh_set (λ (u : Chaining). times_own n c u.0.pushes) views p v w at in
      let g2 = weigh_set (λ (u : Chaining). times_own n c u.0.pops) views p v w at in
      let g3 = weigh_set (λ (u : Chaining). in_gathered n c u.1 u.0.gathered) views p v w at in
      let z : in_gathered n c v.1 v.0.gathered ≡ 0 = ap (in_gathered n c v.1) joined ∙ none_of n c v.1 in
      let o = h.pushed n c in omega arith;
  written = λ q n c u e is. ⊎_elim (λ t. absurd (none-some (c, n) (ap (λ (m : Chaining). m.0.written) t.1 ∙ is))) (λ t. h.written q n c u t.1 is) (at_set views p q w u e);
  loaded = λ q l u e is ne held. ⊎_elim (λ t. absurd (none-some l (ap (λ (m : Chaining). m.0.loaded) t.1 ∙ is))) (λ t. h.loaded q l u t.1 is ne held) (at_set views p q w u e);
  next = λ q n l u e is to. ⊎_elim (λ t. absurd (none-some l (ap (λ (m : Chaining). m.0.loaded) t.1 ∙ is))) (λ t. h.next q n l u t.1 is to) (at_set views p q w u e);
  walks = λ q d u e is held. ⊎_elim (λ t. absurd (none-some d (ap (λ (m : Chaining). m.0.walk) t.1 ∙ is))) (λ t. h.walks q d u t.1 is held) (at_set views p q w u e);
  bins = λ q l u e is. ⊎_elim (λ t. absurd (none-some l (ap (λ (m : Chaining). m.0.loaded) t.1 ∙ is))) (λ t. h.bins q l u t.1 is) (at_set views p q w u e);
  walk_bins = λ q d u e is. ⊎_elim (λ t. absurd (none-some d (ap (λ (m : Chaining). m.0.walk) t.1 ∙ is))) (λ t. h.walk_bins q d u t.1 is) (at_set views p q w u e);
}

-- one more pass, which remembers nothing
pub chains_newcomer : (k : Layout) (chains own : List (List ℕ)) (last : List HomeValue) (locks heads links : List ℕ) (views : List Chaining) (r : Chaining)
    → Chains k chains own last locks heads links views → r ≡ (no_chains, None) → Chains k chains own last locks heads links (views ++ r ∷ [])
chains_newcomer k chains own last locks heads links views r h is_r = record {
  spelled = h.spelled;
  owned = h.owned;
  fronts = h.fronts;
  in_hand = λ q b u e held l. ⊎_elim (λ o. h.in_hand q b u o held l) (λ t. absurd (none-some (hold_of b held.0) (ap (λ (n : Chaining). n.1) (sym is_r ∙ t.1) ∙ held.1))) (at_end views r u q e);
  gathered = λ q b i cs u e held g. ⊎_elim (λ o. h.gathered q b i cs u o held g) (λ t. absurd (some-ne-none cs (sym (ap (λ (n : Chaining). get_elem? n.0.gathered i) (sym is_r ∙ t.1) ∙ g)))) (at_end views r u q e);
  none_gathered = λ q u e none. ⊎_elim (λ o. h.none_gathered q u o none) (λ t. sym (ap (λ (n : Chaining). n.0.gathered) (sym is_r ∙ t.1))) (at_end views r u q e);
  pushed = λ n c.
      let g1 = weigh_more (λ (u : Chaining). times_own n c u.0.pushes) views (r ∷ []) in
      let g2 = weigh_more (λ (u : Chaining). times_own n c u.0.pops) views (r ∷ []) in
      let g3 = weigh_more (λ (u : Chaining). in_gathered n c u.1 u.0.gathered) views (r ∷ []) in
      let z1 : times_own n c r.0.pushes ≡ 0 = ap (λ (u : Chaining). times_own n c u.0.pushes) is_r in
      let z2 : times_own n c r.0.pops ≡ 0 = ap (λ (u : Chaining). times_own n c u.0.pops) is_r in
      let z3 : in_gathered n c r.1 r.0.gathered ≡ 0 = ap (λ (u : Chaining). in_gathered n c u.1 u.0.gathered) is_r in
      let o = h.pushed n c in omega arith;
  written = λ q n c u e is. ⊎_elim (λ o. h.written q n c u o is) (λ t. absurd (none-some (c, n) (ap (λ (m : Chaining). m.0.written) (sym is_r ∙ t.1) ∙ is))) (at_end views r u q e);
  loaded = λ q l u e is ne held. ⊎_elim (λ o. h.loaded q l u o is ne held) (λ t. absurd (none-some l (ap (λ (m : Chaining). m.0.loaded) (sym is_r ∙ t.1) ∙ is))) (at_end views r u q e);
  next = λ q n l u e is to. ⊎_elim (λ o. h.next q n l u o is to) (λ t. absurd (none-some l (ap (λ (m : Chaining). m.0.loaded) (sym is_r ∙ t.1) ∙ is))) (at_end views r u q e);
  walks = λ q d u e is held. ⊎_elim (λ o. h.walks q d u o is held) (λ t. absurd (none-some d (ap (λ (m : Chaining). m.0.walk) (sym is_r ∙ t.1) ∙ is))) (at_end views r u q e);
  bins = λ q l u e is. ⊎_elim (λ o. h.bins q l u o is) (λ t. absurd (none-some l (ap (λ (m : Chaining). m.0.loaded) (sym is_r ∙ t.1) ∙ is))) (at_end views r u q e);
  walk_bins = λ q d u e is. ⊎_elim (λ o. h.walk_bins q d u o is) (λ t. absurd (none-some d (ap (λ (m : Chaining). m.0.walk) (sym is_r ∙ t.1) ∙ is))) (at_end views r u q e);
}
