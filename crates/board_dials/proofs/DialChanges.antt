-- What a step of one pass keeps of the dials' part of the rule: both counts with their maxima, the thresholds, and what is listed.
use Rattle.std.proofs.Common.{◌≡◌, ℕ, ◌+◌, ◌*◌, ◌≤◌, ◌⊎◌, ⊎_elim, inl, inr, List, length-set, set, sym, ap, ◌∙◌, arith, subst}
use mathlib.Core.Logic.{dite}
use native.Mathlib.Decide.{ℕ_discrete}
use mathlib.Core.Option.{some}
use lib.ListN.{get_elem?}
use Rattle.atomic_table.proofs.Lists.{at_set, set_here, set_else}
use Rattle.chunk_tags.specs.declared.tunables.Tunables.{Tunables}
use Rattle.address_space.specs.Spaces.{map_length}
use Rattle.board_types.specs.Views.{DialsView}
use Rattle.board_types.specs.Weights.{weigh}
use Rattle.board_types.specs.Trays.{Tray}
use Rattle.board_types.specs.Dials.{Dials, Counting, SomeView, IsThreshold, AreRead, AreRaises, AreAtMost, IsDue, IsIn, IsSetTo, in_a_hand, as_mapped, as_mapped_bytes}
use Rattle.board_types.proofs.Lists.{same_at, inside}
use Rattle.board_types.proofs.Weigh.{weigh_set}
use Rattle.board_trays.proofs.TrayParts.{some_same}
use Rattle.board_trays.proofs.Newcomers.{at_most_more}
use Rattle.board_dials.specs.DialPlays.{DialWords, words_in}
use Rattle.board_dials.proofs.Later.{IsLater, threshold_later, reads_later, due_less, due_within}

-- A count n with the maximum `most` becomes m with `peak`, while of the pass's numbers that a maximum is due to `old` become `new`,
-- and what it listed in all becomes `more`: the count is due, or no greater, and what is no longer due is in the maximum; that is
-- raised no further than what was due; and nothing is counted or due that isn't listed.
pub record TallyStep (n most m peak : ℕ) (old new : List ℕ) (all more : ℕ) : Type 0 where
  pub covers : IsDue m new ⊎ ((m ≤ n) × (most ≤ peak) × (IsDue n old → (m ≤ peak) ⊎ IsDue m new))
  pub raised : (peak ≤ most) ⊎ IsDue peak old
  pub listed : m + all ≤ n + more
  pub grows : all ≤ more
  pub dues : (k l : ℕ) → n ≤ k → k + more ≡ l + all → AreAtMost k old → AreAtMost l new

-- what the words and a view become
pub record DialStep (t : Tunables) (views : List Counting) (d e : DialWords) (v w : DialsView) : Type 0 where
  pub mapped : e.mapped + v.mapped ≡ d.mapped + w.mapped
  pub bytes : e.bytes + v.bytes ≡ d.bytes + w.bytes
  pub count : TallyStep d.mapped d.most_mapped e.mapped e.most_mapped v.due_mapped w.due_mapped v.all_mapped w.all_mapped
  pub lengths : TallyStep d.bytes d.most_bytes e.bytes e.most_bytes v.due_bytes w.due_bytes v.all_bytes w.all_bytes
  pub given : e.bytes + v.given ≤ d.bytes + w.given
  pub windows : w.windows ≡ v.windows
  pub room : (w.given ≤ w.windows * map_length) × (w.all_mapped ≤ w.windows * (map_length + 1))
  pub mmap : (e.mmap_threshold ≡ d.mmap_threshold) ⊎ (IsSetTo 0 e.mmap_threshold w.set ⊎ IsIn e.mmap_threshold w.raises)
  pub trim : (e.trim_threshold ≡ d.trim_threshold) ⊎ (IsSetTo 1 e.trim_threshold w.set ⊎ ((m : ℕ) × (e.trim_threshold ≡ 2 * m) × IsIn m w.raises))
  pub sets : (i n : ℕ) → IsSetTo i n v.set → IsSetTo i n w.set
  pub more : (n : ℕ) → IsIn n v.raises → IsIn n w.raises
  pub raises : AreRaises t w.raises
  pub read : AreRead t views w.read

module _ (due : DialsView → List ℕ) (all : DialsView → ℕ) (views : List Counting) (p : ℕ) (v w : Counting) (n most m peak : ℕ) (view : get_elem? views p ≡ some v) (it : TallyStep n most m peak (due v.0) (due w.0) (all v.0) (all w.0)) where
  sum_after : weigh (λ u. all u.0) (set views p w) + all v.0 ≡ weigh (λ u. all u.0) views + all w.0
  sum_after = weigh_set (λ (u : Counting). all u.0) views p v w view

  sum_grows : weigh (λ u. all u.0) views ≤ weigh (λ u. all u.0) (set views p w)
  sum_grows = let s = sum_after in let g = it.grows in omega arith

  here : IsDue m (due w.0) → SomeView (λ u. IsDue m (due u.0)) (set views p w)
  here h = (p, w, set_here views p w (inside views p v view), h)

  most_after : (n ≤ most) ⊎ SomeView (λ u. IsDue n (due u.0)) views → (m ≤ peak) ⊎ SomeView (λ u. IsDue m (due u.0)) (set views p w)
  most_after h = ⊎_elim (λ a. inr (here a))
      (λ c. ⊎_elim (λ le. let x = c.0 in let y = c.1 in inl (omega arith))
      (λ s. dite (ℕ_discrete s.0 p)
      (λ is. ⊎_elim (λ le. inl le) (λ a. inr (here a)) (c.2 (subst (λ (u : Counting). IsDue n (due u.0)) (same_at views p s.1 v (ap (get_elem? views) (sym is) ∙ s.2) view) s.3)))
      (λ not. inr (s.0, s.1, set_else views p s.0 w not ∙ s.2, due_less m n (due s.1.0) c.0 s.3))) h)
      it.covers

  listed_after : (n ≤ weigh (λ u. all u.0) views) × (most ≤ weigh (λ u. all u.0) views) → AreAtMost (weigh (λ u. all u.0) views) (due v.0) → (m ≤ weigh (λ u. all u.0) (set views p w)) × (peak ≤ weigh (λ u. all u.0) (set views p w))
  listed_after h dues = let a = h.0 in let b = h.1 in let s = sum_after in let l = it.listed in let g = it.grows in (
    omega arith,
    ⊎_elim (λ le. omega arith) (λ d. let x = due_within (weigh (λ (u : Counting). all u.0) views) peak (due v.0) dues d in omega arith) it.raised,
  )

  due_here : n ≤ weigh (λ u. all u.0) views → AreAtMost (weigh (λ u. all u.0) views) (due v.0) → AreAtMost (weigh (λ u. all u.0) (set views p w)) (due w.0)
  due_here le h = it.dues (weigh (λ (u : Counting). all u.0) views) (weigh (λ (u : Counting). all u.0) (set views p w)) le (sym sum_after) h

-- what holds of each view still does where one changes for which it does
pub each_view : (P : Counting → Type 0) (views : List Counting) (p : ℕ) (w : Counting) → P w → ((q : ℕ) (u : Counting) → get_elem? views q ≡ some u → P u) → (q : ℕ) (u : Counting) → get_elem? (set views p w) q ≡ some u → P u
each_view P views p w h all q u e = ⊎_elim (λ t. subst P t.1 h) (λ t. all q u t.1) (at_set views p q w u e)

module _ (t : Tunables) (trays : List Tray) (views : List Counting) (p : ℕ) (d e : DialWords) (v w : Counting) (law : Dials t trays (words_in d) views) (view : get_elem? views p ≡ some v) (hand : w.1 ≡ v.1) (it : DialStep t views d e v.0 w.0) where
  abbrev next : List Counting
  next = set views p w

  later : IsLater views next
  later = record {
    sets = λ i n h. some_same (λ u. IsSetTo i n u.0.set) views p v w view (it.sets i n) h;
    raises = λ n h. some_same (λ u. IsIn n u.0.raises) views p v w view (it.more n) h;
    counts = sum_grows (λ u. u.due_mapped) (λ u. u.all_mapped) views p v w d.mapped d.most_mapped e.mapped e.most_mapped view it.count;
    lengths = sum_grows (λ u. u.due_bytes) (λ u. u.all_bytes) views p v w d.bytes d.most_bytes e.bytes e.most_bytes view it.lengths;
  }

  made : (P : Counting → Type 0) → P w → SomeView P next
  made P h = (p, w, set_here views p w (inside views p v view), h)

  mmap_after : IsThreshold t next 0 e.mmap_threshold
  mmap_after = ⊎_elim
      (λ s. subst (IsThreshold t next 0) (sym s) (threshold_later t views next later 0 d.mmap_threshold law.thresholds.0))
      (λ m. inr (⊎_elim (λ a. inl (made (λ u. IsSetTo 0 e.mmap_threshold u.0.set) a)) (λ a. inr (made (λ u. IsIn e.mmap_threshold u.0.raises) a)) m))
      it.mmap

  trim_after : IsThreshold t next 1 e.trim_threshold
  trim_after = ⊎_elim
      (λ s. subst (IsThreshold t next 1) (sym s) (threshold_later t views next later 1 d.trim_threshold law.thresholds.1))
      (λ m. inr (⊎_elim (λ a. inl (made (λ u. IsSetTo 1 e.trim_threshold u.0.set) a)) (λ a. inr (a.0, a.1, made (λ u. IsIn a.0 u.0.raises) a.2)) m))
      it.trim

  pub dials_step : Dials t trays (words_in e) next
  dials_step = record {
    mapped = let s = weigh_set (λ (u : Counting). u.0.mapped + in_a_hand as_mapped u.1) views p v w view in let h : in_a_hand as_mapped w.1 ≡ in_a_hand as_mapped v.1 = ap (in_a_hand as_mapped) hand in let o = law.mapped in let m = it.mapped in omega arith;
    bytes = let s = weigh_set (λ (u : Counting). u.0.bytes + in_a_hand as_mapped_bytes u.1) views p v w view in let h : in_a_hand as_mapped_bytes w.1 ≡ in_a_hand as_mapped_bytes v.1 = ap (in_a_hand as_mapped_bytes) hand in let o = law.bytes in let m = it.bytes in omega arith;
    most_mapped = most_after (λ u. u.due_mapped) (λ u. u.all_mapped) views p v w d.mapped d.most_mapped e.mapped e.most_mapped view it.count law.most_mapped;
    most_bytes = most_after (λ u. u.due_bytes) (λ u. u.all_bytes) views p v w d.bytes d.most_bytes e.bytes e.most_bytes view it.lengths law.most_bytes;
    all_mapped = listed_after (λ u. u.due_mapped) (λ u. u.all_mapped) views p v w d.mapped d.most_mapped e.mapped e.most_mapped view it.count law.all_mapped (law.due p v view).0;
    all_bytes = listed_after (λ u. u.due_bytes) (λ u. u.all_bytes) views p v w d.bytes d.most_bytes e.bytes e.most_bytes view it.lengths law.all_bytes (law.due p v view).1;
    due = each_view (λ u. AreAtMost (weigh (λ c. c.0.all_mapped) next) u.0.due_mapped × AreAtMost (weigh (λ c. c.0.all_bytes) next) u.0.due_bytes) views p w (
      due_here (λ u. u.due_mapped) (λ u. u.all_mapped) views p v w d.mapped d.most_mapped e.mapped e.most_mapped view it.count law.all_mapped.0 (law.due p v view).0,
      due_here (λ u. u.due_bytes) (λ u. u.all_bytes) views p v w d.bytes d.most_bytes e.bytes e.most_bytes view it.lengths law.all_bytes.0 (law.due p v view).1,
    )
        (λ q u at. let o = law.due q u at in (at_most_more _ _ u.0.due_mapped later.counts o.0, at_most_more _ _ u.0.due_bytes later.lengths o.1));
    raises = each_view (λ u. AreRaises t u.0.raises) views p w it.raises law.raises;
    thresholds = (mmap_after, trim_after);
    read = each_view (λ u. AreRead t next u.0.read) views p w (reads_later t views next later w.0.read it.read) (λ q u at. reads_later t views next later u.0.read (law.read q u at));
    windows = each_view (λ u. u.0.given ≤ u.0.windows * map_length) views p w it.room.0 law.windows;
    given = let s = weigh_set (λ (u : Counting). u.0.given) views p v w view in let o = law.given in let m = it.given in omega arith;
    counted = each_view (λ u. u.0.all_mapped ≤ u.0.windows * (map_length + 1)) views p w it.room.1 law.counted;
    one_each = let s = weigh_set (λ (u : Counting). u.0.windows) views p v w view in let l = length-set views p w in let o = law.one_each in let m = it.windows in omega arith;
  }
