-- The part view by view: what is so of each view, and of all of them together.
use Rattle.std.proofs.Common.{◌≡◌, ◌≢◌, ℕ, ◌+◌, ◌*◌, ◌/◌, ◌<◌, ⊎_elim, List, [], map, get_or, set, sym, ap, ◌∙◌, arith, Some, None, subst, nat_eq, if◌then◌else◌}
use Rattle.std.proofs.lemmas.Option.{none-some}
use mathlib.Core.Option.{some}
use lib.ListN.{get_elem?}
use Rattle.atomic_table.proofs.Lists.{at_set}
use Rattle.chunk_tags.specs.declared.tiles.Chunk.{Chunk}
use Rattle.board_types.specs.declared.layout.Layout.{Layout}
use Rattle.board_types.specs.Views.{HomeValue, OwnChunk, Loaded, Walk, hold_of}
use Rattle.board_types.specs.Weights.{weigh}
use Rattle.board_types.specs.Chains.{Chains, Chaining, Spells, IsWalked, is_holder, bins_of, front, in_gathered, in_lists, times_own, link_at}
use Rattle.board_types.proofs.Weigh.{weigh_set}

pub record Facts (k : Layout) (chains own : List (List ℕ)) (links : List ℕ) (v : Chaining) : Type 0 where
  pub in_hand : (a : ℕ) → is_holder a v → a < k.records → v.0.own ≡ bins_of a own
  pub gathered : (a b : ℕ) (cs : List ℕ) → is_holder a v → get_elem? v.0.gathered b ≡ some cs → Spells (link_at k links a) cs (front cs)
  pub none_gathered : v.1 ≡ None → v.0.gathered ≡ []
  pub written : (n : ℕ) (c : OwnChunk) → v.0.written ≡ Some (c, n) → link_at k links c.arena c.chunk.at ≡ n
  pub loaded : (l : Loaded) → v.0.loaded ≡ Some l → l.head ≢ 0 → is_holder l.arena v →
      (cs : List ℕ) × (get_elem? chains (10 * l.arena + l.bin) ≡ some cs) × (0 < weigh (λ x. if nat_eq x l.head then 1 else 0) cs)
  pub next : (n : ℕ) (l : Loaded) → v.0.loaded ≡ Some l → l.next ≡ Some n → link_at k links l.arena l.head ≡ n
  pub walks : (w : Walk) → v.0.walk ≡ Some w → is_holder w.arena v → (cs : List ℕ) × (get_elem? chains (10 * w.arena + w.bin) ≡ some cs) × IsWalked cs w
  pub bins : (l : Loaded) → v.0.loaded ≡ Some l → l.bin < 10
  pub walk_bins : (w : Walk) → v.0.walk ≡ Some w → w.bin < 10

abbrev pub HaveFacts : Layout → List (List ℕ) → List (List ℕ) → List ℕ → List Chaining → Type 0
HaveFacts k chains own links views = (p : ℕ) (v : Chaining) → get_elem? views p ≡ some v → Facts k chains own links v

-- what is spelled from each head
abbrev pub AreSpelled : Layout → List (List ℕ) → List ℕ → List ℕ → Type 0
AreSpelled k chains heads links = (i : ℕ) (cs : List ℕ) → get_elem? chains i ≡ some cs → Spells (link_at k links (i / 10)) cs (get_or heads i 0)

abbrev pub AreOwned : Layout → List (List ℕ) → List ℕ → Type 0
AreOwned k own links = (i : ℕ) (cs : List ℕ) → get_elem? own i ≡ some cs → Spells (link_at k links (i / 10)) cs (front cs)

abbrev pub HaveFronts : Layout → List (List ℕ) → List HomeValue → List ℕ → Type 0
HaveFronts k own last locks = (a : ℕ) (x : HomeValue) → a < k.records → get_elem? last a ≡ some x → get_or locks a 0 ≡ 0 → map front (bins_of a own) ≡ x.fronts

-- how often a chunk was pushed, popped and taken over
abbrev pub pushed_by : ℕ → Chunk → Chaining → ℕ
pushed_by a c v = times_own a c v.0.pushes

abbrev pub popped_by : ℕ → Chunk → Chaining → ℕ
popped_by a c v = times_own a c v.0.pops

abbrev pub gathered_by : ℕ → Chunk → Chaining → ℕ
gathered_by a c v = in_gathered a c v.1 v.0.gathered

abbrev pub AreCounted : List (List ℕ) → List (List ℕ) → List Chaining → Type 0
AreCounted chains own views = (a : ℕ) (c : Chunk) → weigh (pushed_by a c) views ≡ weigh (popped_by a c) views + (weigh (gathered_by a c) views + (in_lists a c 0 chains + in_lists a c 0 own))

module _ (k : Layout) (chains own : List (List ℕ)) (last : List HomeValue) (locks heads links : List ℕ) (views : List Chaining) where
  pub facts_of : Chains k chains own last locks heads links views → HaveFacts k chains own links views
  facts_of h p v e = record {
    in_hand = λ a held l. h.in_hand p a v e held l;
    gathered = λ a b cs held g. h.gathered p a b cs v e held g;
    none_gathered = h.none_gathered p v e;
    written = λ n c is. h.written p n c v e is;
    loaded = λ l is ne held. h.loaded p l v e is ne held;
    next = λ n l is to. h.next p n l v e is to;
    walks = λ w is held. h.walks p w v e is held;
    bins = λ l is. h.bins p l v e is;
    walk_bins = λ w is. h.walk_bins p w v e is;
  }

  pub chains_by : AreSpelled k chains heads links → AreOwned k own links → HaveFronts k own last locks → HaveFacts k chains own links views → AreCounted chains own views → Chains k chains own last locks heads links views
  chains_by spelled owned fronts facts counted = record {
    spelled = spelled;
    owned = owned;
    fronts = fronts;
    in_hand = λ p a v e held l. (facts p v e).in_hand a held l;
    gathered = λ p a b cs v e held g. (facts p v e).gathered a b cs held g;
    none_gathered = λ p v e none. (facts p v e).none_gathered none;
    pushed = counted;
    written = λ p n c v e is. (facts p v e).written n c is;
    loaded = λ p l v e is ne held. (facts p v e).loaded l is ne held;
    next = λ p n l v e is to. (facts p v e).next n l is to;
    walks = λ p w v e is held. (facts p v e).walks w is held;
    bins = λ p l v e is. (facts p v e).bins l is;
    walk_bins = λ p w v e is. (facts p v e).walk_bins w is;
  }

-- one view changes
pub facts_set : (k : Layout) (chains own : List (List ℕ)) (links : List ℕ) (views : List Chaining) (p : ℕ) (w : Chaining) → Facts k chains own links w
    → ((q : ℕ) (u : Chaining) → q ≢ p → get_elem? views q ≡ some u → Facts k chains own links u) → HaveFacts k chains own links (set views p w)
facts_set k chains own links views p w mine others q u e = ⊎_elim (λ t. subst (Facts k chains own links) t.1 mine) (λ t. others q u t.0 t.1) (at_set views p q w u e)

pub counted_set : (chains own chains' own' : List (List ℕ)) (views : List Chaining) (p : ℕ) (v w : Chaining) → get_elem? views p ≡ some v
    → ((a : ℕ) (c : Chunk) → pushed_by a c w + (popped_by a c v + (gathered_by a c v + (in_lists a c 0 chains + in_lists a c 0 own))) ≡ pushed_by a c v + (popped_by a c w + (gathered_by a c w + (in_lists a c 0 chains' + in_lists a c 0 own'))))
    → AreCounted chains own views → AreCounted chains' own' (set views p w)
counted_set chains own chains' own' views p v w at moves old a c =
    let g1 = weigh_set (pushed_by a c) views p v w at in let g2 = weigh_set (popped_by a c) views p v w at in let g3 = weigh_set (gathered_by a c) views p v w at in
    let o = old a c in let m = moves a c in omega arith

-- a view that holds and remembers nothing
pub record IsBare (v : Chaining) : Type 0 where
  pub holds : v.1 ≡ None
  pub gathered : v.0.gathered ≡ []
  pub written : v.0.written ≡ None
  pub loaded : v.0.loaded ≡ None
  pub walk : v.0.walk ≡ None

pub bare_facts : (k : Layout) (chains own : List (List ℕ)) (links : List ℕ) (v : Chaining) → IsBare v → Facts k chains own links v
bare_facts k chains own links v bare = record {
  in_hand = λ a held l. absurd (none-some (hold_of a held.0) (sym bare.holds ∙ held.1));
  gathered = λ a b cs held g. absurd (none-some (hold_of a held.0) (sym bare.holds ∙ held.1));
  none_gathered = λ none. bare.gathered;
  written = λ n c is. absurd (none-some (c, n) (sym bare.written ∙ is));
  loaded = λ l is ne held. absurd (none-some l (sym bare.loaded ∙ is));
  next = λ n l is to. absurd (none-some l (sym bare.loaded ∙ is));
  walks = λ w is held. absurd (none-some w (sym bare.walk ∙ is));
  bins = λ l is. absurd (none-some l (sym bare.loaded ∙ is));
  walk_bins = λ w is. absurd (none-some w (sym bare.walk ∙ is));
}

-- ---- a step that changes what one view remembers, and no list

module _ (k : Layout) (chains own : List (List ℕ)) (last : List HomeValue) (locks heads links : List ℕ) (views : List Chaining) (p : ℕ) (v : Chaining)
    (h : Chains k chains own last locks heads links views) (at : get_elem? views p ≡ some v) where
  pub chains_seen : (w : Chaining) → Facts k chains own links w → w.0.pushes ≡ v.0.pushes → w.0.pops ≡ v.0.pops → w.0.gathered ≡ v.0.gathered → w.1 ≡ v.1 → Chains k chains own last locks heads links (set views p w)
  chains_seen w mine pushes pops gathered holds = chains_by k chains own last locks heads links (set views p w) h.spelled h.owned h.fronts
      (facts_set k chains own links views p w mine (λ q u ne e. facts_of k chains own last locks heads links views h q u e))
      (counted_set chains own chains own views p v w at
      (λ a c. let e1 : pushed_by a c w ≡ pushed_by a c v = ap (times_own a c) pushes in let e2 : popped_by a c w ≡ popped_by a c v = ap (times_own a c) pops in
      let e3 : gathered_by a c w ≡ gathered_by a c v = (λ i. in_gathered a c (holds i) (gathered i)) in omega arith)
      h.pushed)
