-- Places where two passes become one, and where one pass is left that speaks for all.
use Rattle.std.proofs.Common.{◌≡◌, ◌≢◌, ℕ, zero, suc, ◌+◌, ⊎_elim, List, [], ◌∷◌, set, sym, refl, ap, ◌∙◌, arith, None, eq-eqb}
use Rattle.std.proofs.lemmas.Option.{none-some}
use mathlib.Core.Option.{some}
use lib.ListN.{get_elem?}
use Rattle.atomic_table.proofs.Lists.{at_set, set_else}
use Rattle.chunk_tags.specs.declared.tiles.Chunk.{Chunk}
use Rattle.board_types.specs.Views.{HomeValue, OwnChunk, hold_of, no_places}
use Rattle.board_types.specs.Weights.{weigh}
use Rattle.board_types.specs.Trays.{Tray}
use Rattle.board_types.specs.Dials.{in_a_hand}
use Rattle.board_types.specs.Chains.{times_own, once_own, in_gathered}
use Rattle.board_types.specs.Places.{Places, Sight, has, pends, times_in, as_chunk_of}
use Rattle.board_types.proofs.Weigh.{weigh_set, weigh_more}
use Rattle.board_places.specs.PlaceEndings.{places_together, AreAllPlaced}
use Rattle.board_places.proofs.PlaceHolds.{weigh_only, none_of}

abbrev pub spent_sight : Sight
spent_sight = record { places = no_places; hand = None; holds = None; gathered = [] }

abbrev pub one_sight : Sight → Sight → Sight
one_sight v w = record { places = places_together v.places w.places; hand = None; holds = None; gathered = [] }

abbrev pub made_by : ℕ → Chunk → Sight → ℕ
made_by a c v = times_own a c v.places.made

abbrev pub unmade_by : ℕ → Chunk → Sight → ℕ
unmade_by a c v = times_own a c v.places.unmade

-- a list has something that it counts, or is empty
own_once : (o : OwnChunk) → once_own o.arena o.chunk o ≡ 1
own_once o = rw (eq-eqb o.arena o.arena refl, eq-eqb o.chunk.at o.chunk.at refl, eq-eqb o.chunk.size o.chunk.size refl) refl

no_chunks : (os : List OwnChunk) → ((a : ℕ) (c : Chunk) → times_own a c os ≡ 0) → os ≡ []
no_chunks [] h = refl
no_chunks (o ∷ os) h = absurd (let z = h o.arena o.chunk in let e = own_once o in omega arith)

module _ (last : List HomeValue) (chains own : List (List ℕ)) (trays : List Tray) (views : List Sight) (h : Places last chains own trays views) where
  -- who holds nothing pends nothing
  none_pends : (p a : ℕ) (c : Chunk) (v : Sight) → get_elem? views p ≡ some v → v.holds ≡ None → pends a c v ≡ 0
  none_pends p a c v e free = by (pends a c v) refl where
    by : (n : ℕ) → pends a c v ≡ n → pends a c v ≡ 0
    by zero z = z
    by (suc n) z = absurd (let o = h.pending p a c v e (omega arith) in none-some (hold_of a o.0) (sym free ∙ o.1))

  pub places_gather : (p q : ℕ) (v w : Sight) → q ≢ p → get_elem? views p ≡ some v → get_elem? views q ≡ some w → v.holds ≡ None → w.holds ≡ None → v.gathered ≡ [] → w.gathered ≡ [] → v.hand ≡ None → w.hand ≡ None
      → Places last chains own trays (set (set views p (one_sight v w)) q spent_sight)
  places_gather p q v w ne at there free_v free_w joined_v joined_w hand_v hand_w =
      let one = one_sight v w in
      let same : (f : Sight → ℕ) → f one ≡ f v + f w → f spent_sight ≡ 0 → weigh f (set (set views p one) q spent_sight) ≡ weigh f views = (λ f both none_left.
      let a = weigh_set f (set views p one) q w spent_sight (set_else views p q one ne ∙ there) in let b = weigh_set f views p v one at in omega arith) in
      let alone : (u : Sight) → u.gathered ≡ [] → u.hand ≡ None → (a : ℕ) (c : Chunk) → has a c u ≡ times_in a c u.places.mine = (λ u joined hand a c.
      let z1 : in_gathered a c u.holds u.gathered ≡ 0 = ap (in_gathered a c u.holds) joined ∙ none_of a c u.holds in let z2 : in_a_hand (as_chunk_of a c) u.hand ≡ 0 = ap (in_a_hand (as_chunk_of a c)) hand in omega arith) in
      let all_has : (a : ℕ) (c : Chunk) → weigh (has a c) (set (set views p one) q spent_sight) ≡ weigh (has a c) views = (λ a c. same (has a c)
      (let x = alone v joined_v hand_v a c in let y = alone w joined_w hand_w a c in let z = weigh_more (as_chunk_of a c) v.places.mine w.places.mine in omega arith) refl) in
      let all_pend : (a : ℕ) (c : Chunk) → weigh (pends a c) (set (set views p one) q spent_sight) ≡ weigh (pends a c) views = (λ a c. same (pends a c) (weigh_more (once_own a c) v.places.pending w.places.pending) refl) in
      record {
        one_place = λ a c. let g = all_has a c in let f = all_pend a c in let o = h.one_place a c in omega arith;
        once = λ a c. let f = all_pend a c in let o = h.once a c in omega arith;
        changed = λ a c. let f = same (made_by a c) (weigh_more (once_own a c) v.places.made w.places.made) refl in let g = same (unmade_by a c) (weigh_more (once_own a c) v.places.unmade w.places.unmade) refl in let o = h.changed a c in omega arith;
        pending = λ r a c u e l. ⊎_elim
            (λ t. absurd (let z : pends a c u ≡ 0 = ap (pends a c) (sym t.1) in omega arith))
            (λ t. ⊎_elim
            (λ s. absurd (let z : pends a c u ≡ pends a c one = ap (pends a c) (sym s.1) in let g : pends a c one ≡ pends a c v + pends a c w = weigh_more (once_own a c) v.places.pending w.places.pending in let x = none_pends p a c v at free_v in let y = none_pends q a c w there free_w in omega arith))
            (λ s. h.pending r a c u s.1 l)
            (at_set views p r one u t.1))
            (at_set (set views p one) q r spent_sight u e);
      }

  -- one view is left, which holds nothing and has nothing in its hand
  pub places_last : (p : ℕ) (v : Sight) → get_elem? views p ≡ some v → v.holds ≡ None → v.gathered ≡ [] → v.hand ≡ None → ((q : ℕ) (u : Sight) → get_elem? views q ≡ some u → q ≢ p → u ≡ spent_sight)
      → AreAllPlaced last chains own trays v.places
  places_last p v at free joined hand others =
      let only : (f : Sight → ℕ) → f spent_sight ≡ 0 → weigh f views ≡ f v = (λ f none_left. weigh_only f views p v at (λ q u e ne. ap f (others q u e ne) ∙ none_left)) in
      record {
        one_place = λ a c. let g = only (has a c) refl in let f = only (pends a c) refl in let z = none_pends p a c v at free in
            let z1 : in_gathered a c v.holds v.gathered ≡ 0 = ap (in_gathered a c v.holds) joined ∙ none_of a c v.holds in let z2 : in_a_hand (as_chunk_of a c) v.hand ≡ 0 = ap (in_a_hand (as_chunk_of a c)) hand in
            let o = h.one_place a c in omega arith;
        once = λ a c. let o = h.once a c in omega arith;
        changed = λ a c. let f = only (made_by a c) refl in let g = only (unmade_by a c) refl in let o = h.changed a c in omega arith;
        pending = no_chunks v.places.pending (λ a c. none_pends p a c v at free);
      }
