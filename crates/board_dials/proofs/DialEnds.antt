-- Dials where one pass is left that speaks for all.
use Rattle.std.proofs.Common.{◌≡◌, ◌≢◌, ℕ, suc, ◌+◌, ⊎_elim, inl, inr, List, [], ◌∷◌, get_or, set, sym, refl, ap, ◌∙◌, arith, subst, None}
use mathlib.Core.Logic.{dite}
use native.Mathlib.Decide.{ℕ_discrete}
use mathlib.Core.Option.{some}
use lib.ListN.{get_elem?}
use Rattle.atomic_table.proofs.Lists.{at_set}
use Rattle.chunk_tags.specs.declared.tunables.Tunables.{Tunables}
use Rattle.board_types.specs.Weights.{weigh}
use Rattle.board_types.specs.Trays.{Tray}
use Rattle.board_types.specs.Dials.{Dials, Counting, SomeView, IsDue, IsIn, IsSetTo, in_a_hand, as_mapped, as_mapped_bytes}
use Rattle.board_types.proofs.Lists.{same_at}
use Rattle.board_types.proofs.Weigh.{weigh_set}
use Rattle.board_dials.specs.DialEnds.{spent_counting, AreFinal}
use Rattle.board_dials.proofs.Later.{IsLater, reads_later}

weigh_none : (f : Counting → ℕ) (xs : List Counting) → ((i : ℕ) (u : Counting) → get_elem? xs i ≡ some u → f u ≡ 0) → weigh f xs ≡ 0
weigh_none f [] all = refl
weigh_none f (x ∷ xs) all = let a = all 0 x refl in let b = weigh_none f xs (λ i u e. all (suc i) u e) in omega arith

module _ (views : List Counting) (p : ℕ) (v : Counting) (at : get_elem? views p ≡ some v) (empty : v.1 ≡ None) (spent : (q : ℕ) (u : Counting) → q ≢ p → get_elem? views q ≡ some u → u ≡ spent_counting) where
  abbrev only : List Counting
  only = (v.0, None) ∷ []

  alone_sum : (f : Counting → ℕ) → f spent_counting ≡ 0 → weigh f views ≡ f v
  alone_sum f none_left =
      let a = weigh_set f views p v spent_counting at in
      let b = weigh_none f (set views p spent_counting) (λ i u e. ⊎_elim (λ t. ap f (sym t.1) ∙ none_left) (λ t. ap f (spent i u t.0 t.1) ∙ none_left) (at_set views p i spent_counting u e)) in
      omega arith

  alone_some : (P : Counting → Type 0) → (P spent_counting → ⊥) → SomeView P views → P v
  alone_some P not_spent s = dite (ℕ_discrete s.0 p)
      (λ is. subst P (same_at views p s.1 v (ap (get_elem? views) (sym is) ∙ s.2) at) s.3)
      (λ not. absurd (not_spent (subst P (spent s.0 s.1 not s.2) s.3)))

  later_only : IsLater views only
  later_only = record {
    sets = λ i n h. (0, (v.0, None), refl, alone_some (λ u. IsSetTo i n u.0.set) (λ z. z) h);
    raises = λ n h. (0, (v.0, None), refl, alone_some (λ u. IsIn n u.0.raises) (λ z. z) h);
    counts = let s = alone_sum (λ u. u.0.all_mapped) refl in omega arith;
    lengths = let s = alone_sum (λ u. u.0.all_bytes) refl in omega arith;
  }

  pub dials_final : (t : Tunables) (trays : List Tray) (words : List ℕ) → v.0.due_mapped ≡ [] → v.0.due_bytes ≡ [] → Dials t trays words views → AreFinal t trays words v.0
  dials_final t trays words no_mapped no_bytes h = let counts = alone_sum (λ u. u.0.all_mapped) refl in let lengths = alone_sum (λ u. u.0.all_bytes) refl in record {
    mapped = let z : in_a_hand as_mapped v.1 ≡ 0 = ap (in_a_hand as_mapped) empty in let s = alone_sum (λ u. u.0.mapped + in_a_hand as_mapped u.1) refl in let o = h.mapped in omega arith;
    bytes = let z : in_a_hand as_mapped_bytes v.1 ≡ 0 = ap (in_a_hand as_mapped_bytes) empty in let s = alone_sum (λ u. u.0.bytes + in_a_hand as_mapped_bytes u.1) refl in let o = h.bytes in omega arith;
    most_mapped = (⊎_elim (λ le. le) (λ s. absurd (subst (IsDue (get_or words 2 0)) no_mapped (alone_some (λ u. IsDue (get_or words 2 0) u.0.due_mapped) (λ z. z) s))) h.most_mapped, let o = h.all_mapped.1 in omega arith);
    most_bytes = (⊎_elim (λ le. le) (λ s. absurd (subst (IsDue (get_or words 3 0)) no_bytes (alone_some (λ u. IsDue (get_or words 3 0) u.0.due_bytes) (λ z. z) s))) h.most_bytes, let o = h.all_bytes.1 in omega arith);
    mmap = ⊎_elim (λ a. inl a) (λ b. inr (⊎_elim (λ c. inl (alone_some (λ u. IsSetTo 0 (get_or words 0 0) u.0.set) (λ z. z) c)) (λ c. inr (alone_some (λ u. IsIn (get_or words 0 0) u.0.raises) (λ z. z) c)) b)) h.thresholds.0;
    trim = ⊎_elim (λ a. inl a) (λ b. inr (⊎_elim (λ c. inl (alone_some (λ u. IsSetTo 1 (get_or words 1 0) u.0.set) (λ z. z) c)) (λ c. inr (c.0, c.1, alone_some (λ u. IsIn c.0 u.0.raises) (λ z. z) c.2)) b)) h.thresholds.1;
    raises = h.raises p v at;
    read = reads_later t views only later_only v.0.read (h.read p v at);
  }
