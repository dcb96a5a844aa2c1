-- Chains where two passes become one, and what they say where one pass is left that speaks for all.
use Rattle.std.proofs.Common.{◌≡◌, ◌≢◌, ℕ, ◌+◌, ◌<◌, List, get_or, set, refl, ap, ◌∙◌, arith, None}
use mathlib.Core.Option.{some}
use lib.ListN.{get_elem?}
use Rattle.atomic_table.proofs.Lists.{set_else}
use Rattle.chunk_tags.specs.declared.tiles.Chunk.{Chunk}
use Rattle.board_types.specs.declared.layout.Layout.{Layout}
use Rattle.board_types.specs.Views.{HomeValue, no_chains}
use Rattle.board_types.specs.Weights.{weigh}
use Rattle.board_types.specs.Chains.{Chains, Chaining, once_own, in_gathered}
use Rattle.board_types.proofs.Weigh.{weigh_set, weigh_more}
use Rattle.board_chains.specs.Endings.{chains_together, AreLast}
use Rattle.board_chains.proofs.Facts.{IsBare, bare_facts, chains_by, facts_of, facts_set, pushed_by, popped_by, gathered_by}
use Rattle.board_chains.proofs.ChainHolds.{none_of}
use Rattle.board_chains.proofs.Sums.{weigh_only}

abbrev pub spent_chains : Chaining
spent_chains = (no_chains, None)

bare_spent : IsBare spent_chains
bare_spent = record { holds = refl; gathered = refl; written = refl; loaded = refl; walk = refl }

module _ (k : Layout) (chains own : List (List ℕ)) (last : List HomeValue) (locks heads links : List ℕ) (views : List Chaining) (h : Chains k chains own last locks heads links views) where
  -- two passes that hold nothing
  pub chains_gather : (p q : ℕ) (v w : Chaining) → q ≢ p → get_elem? views p ≡ some v → get_elem? views q ≡ some w → v.1 ≡ None → w.1 ≡ None
      → Chains k chains own last locks heads links (set (set views p (chains_together v.0 w.0, None)) q spent_chains)
  chains_gather p q v w ne at there free_v free_w =
      let one : Chaining = (chains_together v.0 w.0, None) in
      let same : (f : Chaining → ℕ) → f one ≡ f v + f w → f spent_chains ≡ 0 → weigh f (set (set views p one) q spent_chains) ≡ weigh f views = (λ f both none_left.
      let a = weigh_set f (set views p one) q w spent_chains (set_else views p q one ne ∙ there) in let b = weigh_set f views p v one at in omega arith) in
      let facts = facts_of k chains own last locks heads links views h in
      let none_v : (a : ℕ) (c : Chunk) → gathered_by a c v ≡ 0 = (λ a c. ap (in_gathered a c v.1) (h.none_gathered p v at free_v) ∙ none_of a c v.1) in
      let none_w : (a : ℕ) (c : Chunk) → gathered_by a c w ≡ 0 = (λ a c. ap (in_gathered a c w.1) (h.none_gathered q w there free_w) ∙ none_of a c w.1) in
      chains_by k chains own last locks heads links (set (set views p one) q spent_chains) h.spelled h.owned h.fronts
      (facts_set k chains own links (set views p one) q spent_chains (bare_facts k chains own links spent_chains bare_spent)
      (λ r u no e. facts_set k chains own links views p one (bare_facts k chains own links one (record { holds = refl; gathered = refl; written = refl; loaded = refl; walk = refl })) (λ s z no_p f. facts s z f) r u e))
      (λ a c. let g1 = same (pushed_by a c) (weigh_more (once_own a c) v.0.pushes w.0.pushes) refl in let g2 = same (popped_by a c) (weigh_more (once_own a c) v.0.pops w.0.pops) refl in
      let g3 = same (gathered_by a c) (let e = none_v a c in let f = none_w a c in omega arith) refl in let o = h.pushed a c in omega arith)

  -- one view is left: no other has pushed, popped or taken over, and no lock is taken
  pub chains_last : (p : ℕ) (v : Chaining) → get_elem? views p ≡ some v → v.1 ≡ None → ((q : ℕ) (u : Chaining) → q ≢ p → get_elem? views q ≡ some u → u ≡ spent_chains)
      → ((a : ℕ) → a < k.records → get_or locks a 0 ≡ 0) → AreLast k chains own last heads links v.0
  chains_last p v at free others unlocked = record {
    spelled = h.spelled;
    owned = h.owned;
    fronts = λ a x l e. h.fronts a x l e (unlocked a l);
    pushed = λ a c.
        let only : (f : Chaining → ℕ) → f spent_chains ≡ 0 → weigh f views ≡ f v = (λ f none_left. weigh_only f views p v at (λ q u no e. ap f (others q u no e) ∙ none_left)) in
        let g1 = only (pushed_by a c) refl in let g2 = only (popped_by a c) refl in let g3 = only (gathered_by a c) refl in
        let z : gathered_by a c v ≡ 0 = ap (in_gathered a c v.1) (h.none_gathered p v at free) ∙ none_of a c v.1 in let o = h.pushed a c in omega arith;
  }
