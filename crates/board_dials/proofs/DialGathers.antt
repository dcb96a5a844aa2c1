-- Dials where one view comes to speak for two, and the other for nobody.
use Rattle.std.proofs.Common.{◌≡◌, ◌≢◌, ℕ, ◌+◌, ◌*◌, ◌≤◌, ⊎_elim, inl, inr, List, length-set, get_or, set, sym, refl, ap, ◌∙◌, arith, subst, None}
use mathlib.Core.Logic.{dite}
use native.Mathlib.Decide.{ℕ_discrete}
use mathlib.Core.Option.{some}
use lib.ListN.{get_elem?}
use Rattle.atomic_table.proofs.Lists.{set_here, set_else}
use Rattle.chunk_tags.specs.declared.tunables.Tunables.{Tunables}
use Rattle.address_space.specs.Spaces.{map_length}
use Rattle.board_types.specs.Weights.{weigh}
use Rattle.board_types.specs.Trays.{Tray}
use Rattle.board_types.specs.Dials.{Dials, Counting, SomeView, AreRead, AreRaises, AreAtMost, IsDue, IsIn, IsSetTo, in_a_hand, as_mapped, as_mapped_bytes}
use Rattle.board_types.proofs.Lists.{same_at, inside}
use Rattle.board_types.proofs.Weigh.{weigh_set}
use Rattle.board_trays.proofs.Newcomers.{at_most_more}
use Rattle.board_dials.specs.DialPlays.{joined_dials}
use Rattle.board_dials.specs.DialEnds.{spent_counting}
use Rattle.board_dials.proofs.Later.{IsLater, threshold_later, reads_later, at_most_both, due_left, due_right, in_left, in_right, set_left, set_right, raises_both, reads_both}
use Rattle.board_dials.proofs.DialChanges.{each_view}

module _ (views : List Counting) (p q : ℕ) (v w : Counting) (at : get_elem? views p ≡ some v) (there : get_elem? views q ≡ some w) (ne : q ≢ p) (empty : w.1 ≡ None) where
  abbrev one : Counting
  one = (joined_dials v.0 w.0, v.1)

  abbrev first : List Counting
  first = set views p one

  abbrev both : List Counting
  both = set first q spent_counting

  both_sum : (f : Counting → ℕ) → f one ≡ f v + f w → f spent_counting ≡ 0 → weigh f both ≡ weigh f views
  both_sum f sum none_left = let a = weigh_set f views p v one at in let b = weigh_set f first q w spent_counting (set_else views p q one ne ∙ there) in omega arith

  here : (P : Counting → Type 0) → P one → SomeView P both
  here P h = (p, one, set_else first q p spent_counting (λ e. ne (sym e)) ∙ set_here views p one (inside views p v at), h)

  both_some : (P : Counting → Type 0) → (P v → P one) → (P w → P one) → SomeView P views → SomeView P both
  both_some P of_v of_w s = dite (ℕ_discrete s.0 p)
      (λ is. here P (of_v (subst P (same_at views p s.1 v (ap (get_elem? views) (sym is) ∙ s.2) at) s.3)))
      (λ no_p. dite (ℕ_discrete s.0 q)
      (λ is. here P (of_w (subst P (same_at views q s.1 w (ap (get_elem? views) (sym is) ∙ s.2) there) s.3)))
      (λ no_q. (s.0, s.1, set_else first q s.0 spent_counting no_q ∙ (set_else views p s.0 one no_p ∙ s.2), s.3)))

  both_each : (P : Counting → Type 0) → P one → P spent_counting → ((r : ℕ) (u : Counting) → get_elem? views r ≡ some u → P u) → (r : ℕ) (u : Counting) → get_elem? both r ≡ some u → P u
  both_each P of_one of_spent all = each_view P first q spent_counting of_spent (each_view P views p one of_one all)

  both_counts : weigh (λ u. u.0.all_mapped) both ≡ weigh (λ u. u.0.all_mapped) views
  both_counts = both_sum (λ u. u.0.all_mapped) refl refl

  both_lengths : weigh (λ u. u.0.all_bytes) both ≡ weigh (λ u. u.0.all_bytes) views
  both_lengths = both_sum (λ u. u.0.all_bytes) refl refl

  later : IsLater views both
  later = record {
    sets = λ i n h. both_some (λ u. IsSetTo i n u.0.set) (set_left i n v.0.set w.0.set) (set_right i n v.0.set w.0.set) h;
    raises = λ n h. both_some (λ u. IsIn n u.0.raises) (in_left n v.0.raises w.0.raises) (in_right n v.0.raises w.0.raises) h;
    counts = let e = both_counts in omega arith;
    lengths = let e = both_lengths in omega arith;
  }

  abbrev AreDue : Counting → Type 0
  AreDue u = AreAtMost (weigh (λ c. c.0.all_mapped) both) u.0.due_mapped × AreAtMost (weigh (λ c. c.0.all_bytes) both) u.0.due_bytes

  pub dials_gather : (t : Tunables) (trays : List Tray) (words : List ℕ) → Dials t trays words views → Dials t trays words both
  dials_gather t trays words h =
      let still : (r : ℕ) (u : Counting) → get_elem? views r ≡ some u → AreDue u = (λ r u e. let o = h.due r u e in (at_most_more _ _ u.0.due_mapped later.counts o.0, at_most_more _ _ u.0.due_bytes later.lengths o.1)) in
      let a = still p v at in
      let b = still q w there in
      let reads : (r : ℕ) (u : Counting) → get_elem? views r ≡ some u → AreRead t both u.0.read = (λ r u e. reads_later t views both later u.0.read (h.read r u e)) in record {
        mapped = let z : in_a_hand as_mapped w.1 ≡ 0 = ap (in_a_hand as_mapped) empty in let s = both_sum (λ u. u.0.mapped + in_a_hand as_mapped u.1) (omega arith) refl in let o = h.mapped in omega arith;
        bytes = let z : in_a_hand as_mapped_bytes w.1 ≡ 0 = ap (in_a_hand as_mapped_bytes) empty in let s = both_sum (λ u. u.0.bytes + in_a_hand as_mapped_bytes u.1) (omega arith) refl in let o = h.bytes in omega arith;
        most_mapped = ⊎_elim (λ le. inl le) (λ s. inr (both_some (λ u. IsDue (get_or words 2 0) u.0.due_mapped) (due_left _ v.0.due_mapped w.0.due_mapped) (due_right _ v.0.due_mapped w.0.due_mapped) s)) h.most_mapped;
        most_bytes = ⊎_elim (λ le. inl le) (λ s. inr (both_some (λ u. IsDue (get_or words 3 0) u.0.due_bytes) (due_left _ v.0.due_bytes w.0.due_bytes) (due_right _ v.0.due_bytes w.0.due_bytes) s)) h.most_bytes;
        all_mapped = let e = both_counts in let x = h.all_mapped.0 in let y = h.all_mapped.1 in (omega arith, omega arith);
        all_bytes = let e = both_lengths in let x = h.all_bytes.0 in let y = h.all_bytes.1 in (omega arith, omega arith);
        due = both_each AreDue (at_most_both _ v.0.due_mapped w.0.due_mapped a.0 b.0, at_most_both _ v.0.due_bytes w.0.due_bytes a.1 b.1) (tt, tt) still;
        raises = both_each (λ u. AreRaises t u.0.raises) (raises_both t v.0.raises w.0.raises (h.raises p v at) (h.raises q w there)) tt h.raises;
        thresholds = (threshold_later t views both later 0 (get_or words 0 0) h.thresholds.0, threshold_later t views both later 1 (get_or words 1 0) h.thresholds.1);
        read = both_each (λ u. AreRead t both u.0.read) (reads_both t both v.0.read w.0.read (reads p v at) (reads q w there)) tt reads;
        windows = both_each (λ u. u.0.given ≤ u.0.windows * map_length) (let x = h.windows p v at in let y = h.windows q w there in omega arith) (omega arith) h.windows;
        given = let s = both_sum (λ u. u.0.given) refl refl in let o = h.given in omega arith;
        counted = both_each (λ u. u.0.all_mapped ≤ u.0.windows * (map_length + 1)) (let x = h.counted p v at in let y = h.counted q w there in omega arith) (omega arith) h.counted;
        one_each = let s = both_sum (λ u. u.0.windows) refl refl in let l = length-set views p one in let m = length-set first q spent_counting in let o = h.one_each in omega arith;
      }
