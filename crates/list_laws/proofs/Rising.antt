-- Entries whose numbers rise: what putting one in and taking one out leaves.
use Rattle.std.proofs.Common.{◌≡◌, ℕ, ◌+◌, ◌<◌, ◌≤◌, true, false, cond, List, [], ◌∷◌, Option, Some, None, Ordering, ◌⊎◌, inl, inr, IsPermutation, refl, arith, nat_cmp}
use Rattle.std.specs.declared.cmp.Ordering.TheVariants.{Less, Equal, Greater}
use Rattle.std.specs.Ordering.{match_ordering, MatchOrdering, is_eq}
use Rattle.std.specs.Cmp.{ranks}
use Rattle.std.specs.BTreeMap.{is_at, insert_entry}
use Rattle.std.specs.Map.{values_of, remove_entry}
use Rattle.list_laws.specs.Rising.{Rise, at}
use Rattle.std.proofs.lemmas.List.Sorted.{IsPermutation-refl, IsPermutation-trans, IsPermutation-sym, IsPermutation-cons, IsPermutation-middle}

pub rise_from : {X : Type 0} (a b : ℕ) (es : List (ℕ × X)) → a ≤ b → Rise b es → Rise a es
rise_from a b [] le h = tt
rise_from a b (e ∷ es) le h = (omega (arith, h.0), h.1)

-- what stands at n where v is at k and other entries behind it
at_first : {X : Type 0} (n k : ℕ) (v b : X) (es : List (ℕ × X)) → at n ((k, v) ∷ es) ≡ Some b → ((n ≡ k) × (v ≡ b)) ⊎ (at n es ≡ Some b)
at_first n k v b es found =
    let step : (o : Ordering) → MatchOrdering o (n < k) (n ≡ k) (k < n) → cond (is_eq o) (Some v) (at n es) ≡ Some b → ((n ≡ k) × (v ≡ b)) ⊎ (at n es ≡ Some b) = elim [
      | Less ↦ λ lt h. inr h
      | Equal ↦ λ eq h. inl (eq, cc)
      | Greater ↦ λ gt h. inr h
    ] in
    step (nat_cmp n k) (ranks n k) found

-- the same where it comes in the place of another
at_same : {X : Type 0} (n k : ℕ) (e : ℕ × X) (v b : X) (es : List (ℕ × X)) → k ≡ e.0 → at n ((e.0, v) ∷ es) ≡ Some b → ((n ≡ k) × (v ≡ b)) ⊎ (at n (e ∷ es) ≡ Some b)
at_same n k e v b es same found =
    let step : (o : Ordering) → MatchOrdering o (n < e.0) (n ≡ e.0) (e.0 < n) → cond (is_eq o) (Some v) (at n es) ≡ Some b → ((n ≡ k) × (v ≡ b)) ⊎ (cond (is_eq o) (Some e.1) (at n es) ≡ Some b) = elim [
      | Less ↦ λ lt h. inr h
      | Equal ↦ λ eq h. inl (omega arith, cc)
      | Greater ↦ λ gt h. inr h
    ] in
    step (nat_cmp n e.0) (ranks n e.0) found

-- and where it comes behind another
at_later : {X : Type 0} (P : Type 0) (n : ℕ) (e : ℕ × X) (b : X) (es more : List (ℕ × X)) → at n (e ∷ more) ≡ Some b → (at n more ≡ Some b → P ⊎ (at n es ≡ Some b)) → P ⊎ (at n (e ∷ es) ≡ Some b)
at_later P n e b es more found later =
    let step : (o : Ordering) → cond (is_eq o) (Some e.1) (at n more) ≡ Some b → P ⊎ (cond (is_eq o) (Some e.1) (at n es) ≡ Some b) = elim [
      | Less ↦ later
      | Equal ↦ λ h. inr h
      | Greater ↦ later
    ] in
    step (nat_cmp n e.0) found

-- ---- putting one in

pub rise_with : {X : Type 0} (a : ℕ) (es : List (ℕ × X)) (k : ℕ) (v : X) → Rise a es → a ≤ k → Rise a (insert_entry nat_cmp es k v)
rise_with a [] k v h le = (le, tt)
rise_with {X} a (e ∷ es) k v h le =
    let step : (o : Ordering) → MatchOrdering o (k < e.0) (k ≡ e.0) (e.0 < k) → Rise a (match_ordering o ((k, v) ∷ e ∷ es) ((e.0, v) ∷ es) (e ∷ insert_entry nat_cmp es k v)) = elim [
      | Less ↦ λ lt. (le, (omega arith, h.1))
      | Equal ↦ λ eq. (h.0, h.1)
      | Greater ↦ λ gt. (h.0, rise_with (e.0 + 1) es k v h.1 (omega arith))
    ] in
    step (nat_cmp k e.0) (ranks k e.0)

pub at_with : {X : Type 0} (n : ℕ) (es : List (ℕ × X)) (k : ℕ) (v b : X) → at n (insert_entry nat_cmp es k v) ≡ Some b → ((n ≡ k) × (v ≡ b)) ⊎ (at n es ≡ Some b)
at_with n [] k v b found = at_first n k v b [] found
at_with {X} n (e ∷ es) k v b found =
    let step : (o : Ordering) → MatchOrdering o (k < e.0) (k ≡ e.0) (e.0 < k) → at n (match_ordering o ((k, v) ∷ e ∷ es) ((e.0, v) ∷ es) (e ∷ insert_entry nat_cmp es k v)) ≡ Some b → ((n ≡ k) × (v ≡ b)) ⊎ (at n (e ∷ es) ≡ Some b) = elim [
      | Less ↦ λ lt h. at_first n k v b (e ∷ es) h
      | Equal ↦ λ eq h. at_same n k e v b es eq h
      | Greater ↦ λ gt h. at_later ((n ≡ k) × (v ≡ b)) n e b es (insert_entry nat_cmp es k v) h (at_with n es k v b)
    ] in
    step (nat_cmp k e.0) (ranks k e.0) found

-- ---- taking one out

pub rise_without : {X : Type 0} (a : ℕ) (es : List (ℕ × X)) (k : ℕ) → Rise a es → Rise a (remove_entry (is_at (nat_cmp k)) es)
rise_without a [] k h = tt
rise_without a (e ∷ es) k h =
    elim (is_at (nat_cmp k) e.0) as (λ b. Rise a (cond b es (e ∷ remove_entry (is_at (nat_cmp k)) es))) [
      | true ↦ rise_from a (e.0 + 1) es (omega (arith, h.0)) h.1
      | false ↦ (h.0, rise_without (e.0 + 1) es k h.1)
    ]

none_above : {X : Type 0} (k a : ℕ) (es : List (ℕ × X)) → k < a → Rise a es → at k es ≡ None
none_above k a [] lt h = refl
none_above {X} k a (e ∷ es) lt h =
    let step : (o : Ordering) → MatchOrdering o (k < e.0) (k ≡ e.0) (e.0 < k) → cond (is_eq o) (Some e.1) (at k es) ≡ None = elim [
      | Less ↦ λ below. none_above k (e.0 + 1) es (omega arith) h.1
      | Equal ↦ λ eq. let no : ⊥ = omega (arith, h.0) in absurd no
      | Greater ↦ λ above. none_above k (e.0 + 1) es (omega (arith, h.0)) h.1
    ] in
    step (nat_cmp k e.0) (ranks k e.0)

none_skipped : {X : Type 0} (k : ℕ) (e : ℕ × X) (es : List (ℕ × X)) → (k ≡ e.0 → ⊥) → at k es ≡ None → at k (e ∷ es) ≡ None
none_skipped {X} k e es apart none =
    let step : (o : Ordering) → MatchOrdering o (k < e.0) (k ≡ e.0) (e.0 < k) → cond (is_eq o) (Some e.1) (at k es) ≡ None = elim [
      | Less ↦ λ below. none
      | Equal ↦ λ eq. absurd (apart eq)
      | Greater ↦ λ above. none
    ] in
    step (nat_cmp k e.0) (ranks k e.0)

pub none_without : {X : Type 0} (k a : ℕ) (es : List (ℕ × X)) → Rise a es → at k (remove_entry (is_at (nat_cmp k)) es) ≡ None
none_without k a [] h = refl
none_without {X} k a (e ∷ es) h =
    let step : (o : Ordering) → MatchOrdering o (k < e.0) (k ≡ e.0) (e.0 < k) → at k (cond (is_eq o) es (e ∷ remove_entry (is_at (nat_cmp k)) es)) ≡ None = elim [
      | Less ↦ λ below. none_skipped k e (remove_entry (is_at (nat_cmp k)) es) (λ eq. omega arith) (none_without k (e.0 + 1) es h.1)
      | Equal ↦ λ eq. none_above k (e.0 + 1) es (omega arith) h.1
      | Greater ↦ λ above. none_skipped k e (remove_entry (is_at (nat_cmp k)) es) (λ eq. omega arith) (none_without k (e.0 + 1) es h.1)
    ] in
    step (nat_cmp k e.0) (ranks k e.0)

-- what stands behind a number isn't at that number
at_behind : {X : Type 0} (n : ℕ) (e : ℕ × X) (b : X) (es : List (ℕ × X)) → Rise (e.0 + 1) es → at n es ≡ Some b → at n (e ∷ es) ≡ Some b
at_behind {X} n e b es rise found =
    let step : (o : Ordering) → MatchOrdering o (n < e.0) (n ≡ e.0) (e.0 < n) → cond (is_eq o) (Some e.1) (at n es) ≡ Some b = elim [
      | Less ↦ λ lt. found
      | Equal ↦ λ eq. let none : at n es ≡ None = none_above n (e.0 + 1) es (omega arith) rise in absurd cc
      | Greater ↦ λ gt. found
    ] in
    step (nat_cmp n e.0) (ranks n e.0)

at_still : {X : Type 0} (n : ℕ) (e : ℕ × X) (b : X) (es less : List (ℕ × X)) → (at n less ≡ Some b → at n es ≡ Some b) → at n (e ∷ less) ≡ Some b → at n (e ∷ es) ≡ Some b
at_still n e b es less later =
    elim (is_at (nat_cmp n) e.0) as (λ t. cond t (Some e.1) (at n less) ≡ Some b → cond t (Some e.1) (at n es) ≡ Some b) [
      | true ↦ λ h. h
      | false ↦ later
    ]

pub at_without : {X : Type 0} (n k a : ℕ) (b : X) (es : List (ℕ × X)) → Rise a es → at n (remove_entry (is_at (nat_cmp k)) es) ≡ Some b → at n es ≡ Some b
at_without n k a b [] rise found = found
at_without n k a b (e ∷ es) rise found =
    elim (is_at (nat_cmp k) e.0) as (λ t. at n (cond t es (e ∷ remove_entry (is_at (nat_cmp k)) es)) ≡ Some b → at n (e ∷ es) ≡ Some b) [
      | true ↦ at_behind n e b es rise.1
      | false ↦ at_still n e b es (remove_entry (is_at (nat_cmp k)) es) (at_without n k (e.0 + 1) b es rise.1)
    ] found

-- ---- in another order

pub shuffled_with : {X : Type 0} (es : List (ℕ × X)) (k : ℕ) (v : X) → at k es ≡ None → IsPermutation (v ∷ values_of es) (values_of (insert_entry nat_cmp es k v))
shuffled_with [] k v none = IsPermutation-refl (v ∷ [])
shuffled_with {X} (e ∷ es) k v none =
    let step : (o : Ordering) → cond (is_eq o) (Some e.1) (at k es) ≡ None → IsPermutation (v ∷ e.1 ∷ values_of es) (values_of (match_ordering o ((k, v) ∷ e ∷ es) ((e.0, v) ∷ es) (e ∷ insert_entry nat_cmp es k v))) = elim [
      | Less ↦ λ h. IsPermutation-refl (v ∷ e.1 ∷ values_of es)
      | Equal ↦ λ h. absurd cc
      | Greater ↦ λ h. IsPermutation-trans _ _ _ (IsPermutation-sym _ _ (IsPermutation-middle (e.1 ∷ []) v (values_of es))) (IsPermutation-cons e.1 _ _ (shuffled_with es k v h))
    ] in
    step (nat_cmp k e.0) none
