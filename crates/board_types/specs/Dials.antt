-- Dials (struct malloc_par of glibc 2.31 malloc/malloc.c: mmap_threshold, trim_threshold, n_mmaps, mmapped_mem, max_n_mmaps,
-- max_mmapped_mem): the counts of mappings are sums over the views, the full trays and the hands; the maxima and the thresholds
-- come from what views list. Words: 0 mmap threshold, 1 trim threshold, 2 mapped, 3 bytes, 4 and 5 the maxima of these two.
use Rattle.std.specs.Prelude.{◌≡◌, ℕ, ◌+◌, ◌*◌, ◌%◌, ◌≤◌, ◌⊎◌, Option as Maybe, Some, None, List, [], ◌∷◌, length, zero, suc, slice_index, is_some, if◌then◌else◌}
use mathlib.Core.Option.{some}
use lib.ListN.{get_elem?}
use Rattle.chunk_tags.specs.declared.block.Block.{Block}
use Rattle.chunk_tags.specs.declared.tunables.Tunables.{Tunables}
use Rattle.address_space.specs.Spaces.{map_length}
use Rattle.mapped_chunks.specs.Mappings.{mapping_bytes}
use Rattle.board_types.specs.Views.{Posted, DialsView}
use Rattle.board_types.specs.Weights.{weigh, each}
use Rattle.board_types.specs.Trays.{Tray, Vacant, Claimed, Full, Took}

-- 1 for a mapped block, and the bytes of its mapping; 0 for a block of an arena
abbrev pub as_mapped : Block → ℕ
as_mapped b = if is_some b.arena then 0 else 1

abbrev pub as_mapped_bytes : Block → ℕ
as_mapped_bytes b = if is_some b.arena then 0 else mapping_bytes b

-- what a hand, or a full tray, weighs
abbrev pub in_a_hand : (Block → ℕ) → Maybe Posted → ℕ
in_a_hand h None = 0
in_a_hand h (Some x) = h x.block

abbrev pub full : (Block → ℕ) → ℕ → Tray → ℕ
full h k Vacant = 0
full h k (Claimed p b) = 0
full h k (Full b) = h b
full h k (Took b) = 0

-- what dials see of a view: what it counts, and its hand
abbrev pub Counting : Type 0
Counting = DialsView × Maybe Posted

-- one of the raises that are due is to at least this
abbrev pub IsDue : ℕ → List ℕ → Type 0
IsDue n [] = ⊥
IsDue n (m ∷ ms) = (n ≤ m) ⊎ IsDue n ms

-- all are at most this
abbrev pub AreAtMost : ℕ → List ℕ → Type 0
AreAtMost n [] = Unit {0}
AreAtMost n (m ∷ ms) = (m ≤ n) × AreAtMost n ms

-- this is one of them
abbrev pub IsIn : ℕ → List ℕ → Type 0
IsIn n [] = ⊥
IsIn n (m ∷ ms) = (n ≡ m) ⊎ IsIn n ms

-- the threshold `which` was set to n
abbrev pub IsSetTo : ℕ → ℕ → List (ℕ × ℕ) → Type 0
IsSetTo which n [] = ⊥
IsSetTo which n (s ∷ ss) = ((s.0 ≡ which) × (s.1 ≡ n)) ⊎ IsSetTo which n ss

-- some view has it
abbrev pub SomeView : (Counting → Type 0) → List Counting → Type 0
SomeView P views = (p : ℕ) × (v : Counting) × (get_elem? views p ≡ some v) × P v

-- where a threshold may stand: at its start, at a value that was set for it, or at a raise (for trim twice that)
abbrev pub IsThreshold : Tunables → List Counting → ℕ → ℕ → Type 0
IsThreshold t views zero n =
    (n ≡ t.mmap_threshold) ⊎ (SomeView (λ v. IsSetTo 0 n v.0.set) views ⊎ SomeView (λ v. IsIn n v.0.raises) views)
IsThreshold t views (suc w) n =
    (n ≡ t.trim_threshold) ⊎ (SomeView (λ v. IsSetTo 1 n v.0.set) views ⊎ ((m : ℕ) × (n ≡ 2 * m) × SomeView (λ v. IsIn m v.0.raises) views))

-- what was read of a dial: a threshold, or at most what all passes mapped
abbrev pub IsRead : Tunables → List Counting → ℕ × ℕ → Type 0
IsRead t views (zero, n) = IsThreshold t views 0 n
IsRead t views (suc zero, n) = IsThreshold t views 1 n
IsRead t views (suc (suc zero), n) = n ≤ weigh (λ v. v.0.all_mapped) views
IsRead t views (suc (suc (suc zero)), n) = n ≤ weigh (λ v. v.0.all_bytes) views
IsRead t views (suc (suc (suc (suc zero))), n) = n ≤ weigh (λ v. v.0.all_mapped) views
IsRead t views (suc (suc (suc (suc (suc w)))), n) = n ≤ weigh (λ v. v.0.all_bytes) views

-- each value that was read is so
abbrev pub AreRead : Tunables → List Counting → List (ℕ × ℕ) → Type 0
AreRead t views [] = Unit {0}
AreRead t views (r ∷ rs) = IsRead t views r × AreRead t views rs

-- a raise is a multiple of 16, and at least the starting threshold less one
abbrev pub AreRaises : Tunables → List ℕ → Type 0
AreRaises t [] = Unit {0}
AreRaises t (r ∷ rs) = (r % 16 ≡ 0) × (t.mmap_threshold ≤ r + 1) × AreRaises t rs

-- The part of the rule.
pub record Dials (t : Tunables) (trays : List Tray) (words : List ℕ) (views : List Counting) : Type 0 where
  -- the counts
  pub mapped : slice_index words 2 ≡ weigh (λ v. v.0.mapped + in_a_hand as_mapped v.1) views + each (full as_mapped) 0 trays
  pub bytes : slice_index words 3
      ≡ weigh (λ v. v.0.bytes + in_a_hand as_mapped_bytes v.1) views + each (full as_mapped_bytes) 0 trays
  -- each maximum is at least its count, or a pass is about to raise it to that
  pub most_mapped : (slice_index words 2 ≤ slice_index words 4) ⊎ SomeView (λ v. IsDue (slice_index words 2) v.0.due_mapped) views
  pub most_bytes : (slice_index words 3 ≤ slice_index words 5) ⊎ SomeView (λ v. IsDue (slice_index words 3) v.0.due_bytes) views
  -- counts, maxima and raises that are due are at most what all passes mapped
  pub all_mapped : (slice_index words 2 ≤ weigh (λ v. v.0.all_mapped) views) × (slice_index words 4 ≤ weigh (λ v. v.0.all_mapped) views)
  pub all_bytes : (slice_index words 3 ≤ weigh (λ v. v.0.all_bytes) views) × (slice_index words 5 ≤ weigh (λ v. v.0.all_bytes) views)
  pub due : (p : ℕ) (v : Counting) → get_elem? views p ≡ some v →
      AreAtMost (weigh (λ u. u.0.all_mapped) views) v.0.due_mapped × AreAtMost (weigh (λ u. u.0.all_bytes) views) v.0.due_bytes
  -- the thresholds, and what was read
  pub raises : (p : ℕ) (v : Counting) → get_elem? views p ≡ some v → AreRaises t v.0.raises
  pub thresholds : IsThreshold t views 0 (slice_index words 0) × IsThreshold t views 1 (slice_index words 1)
  pub read : (p : ℕ) (v : Counting) → get_elem? views p ≡ some v → AreRead t views v.0.read
  -- no view's window for mappings gave more than it has, and no mapping is counted that no window gave: so no word wraps
  pub windows : (p : ℕ) (v : Counting) → get_elem? views p ≡ some v → v.0.given ≤ v.0.windows * map_length
  pub given : slice_index words 3 ≤ weigh (λ v. v.0.given) views
  pub counted : (p : ℕ) (v : Counting) → get_elem? views p ≡ some v → v.0.all_mapped ≤ v.0.windows * (map_length + 1)
  pub one_each : weigh (λ v. v.0.windows) views ≡ length views
