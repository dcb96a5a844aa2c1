-- What is put by address is there.
use Rattle.std.proofs.Common.{◌≡◌, ℕ, ◌<◌, Bool, true, false, cond, List, [], ◌∷◌, Some, is_some, Ordering, ◌⊎◌, inl, inr, sum_by, fold, suc, refl, sym, ap, ◌∙◌, arith, nat_cmp}
use Rattle.std.specs.Prelude.{nat_eq, Contains, if◌then◌else◌}
use Rattle.std.specs.declared.cmp.Ordering.TheVariants.{Less, Equal, Greater}
use Rattle.std.specs.Ordering.{match_ordering, MatchOrdering, is_eq}
use Rattle.std.specs.Cmp.{ranks}
use Rattle.std.specs.BTreeMap.{is_at, insert_entry}
use Rattle.std.specs.Map.{values_of}
use Rattle.std.proofs.lemmas.Bool.{eq-eqb, eqb-true}
use Rattle.std.proofs.lemmas.List.Sums.{sum_by-cons}
use Rattle.list_laws.specs.Rising.{at}
use Rattle.world_view.specs.Places.{Placed, FoundAt, nothing_found, put_found, found_by_address}

-- ---- something is there

-- something is found at an address
abbrev pub IsThere : ℕ → FoundAt → Type 0
IsThere n found = is_some (found n) ≡ true

there_with : (n : ℕ) (found : FoundAt) (f : Placed) → (f.0 ≡ n) ⊎ IsThere n found → IsThere n (put_found found f)
there_with n found f either =
    let cases : (b : Bool) → nat_eq f.0 n ≡ b → is_some (if b then Some f.1 else found n) ≡ true = elim [
      | true ↦ λ e. refl
      | false ↦ λ e. elim either [ inl same ↦ let yes = eq-eqb f.0 n same in let no : ⊥ = cc in absurd no | inr there ↦ there ]
    ] in
    cases (nat_eq f.0 n) refl

-- 1 for what is found at an address, and how much is
abbrev pub stands_at : ℕ → Placed → ℕ
stands_at n f = cond (nat_eq n f.0) 1 0

abbrev pub times_found : ℕ → List Placed → ℕ
times_found n fs = sum_by (stands_at n) fs

all_there : (n : ℕ) (found : FoundAt) (fs : List Placed) → IsThere n found ⊎ (0 < times_found n fs) → IsThere n (fold put_found found fs)
all_there n found [] either = elim either [ inl there ↦ there | inr some ↦ let no : ⊥ = omega arith in absurd no ]
all_there n found (f ∷ fs) either =
    let cases : (b : Bool) → nat_eq n f.0 ≡ b → IsThere n (fold put_found (put_found found f) fs) = elim [
      | true ↦ λ e. all_there n (put_found found f) fs (inl (there_with n found f (inl (sym (eqb-true n f.0 e)))))
      | false ↦ λ e. elim either [
        | inl there ↦ all_there n (put_found found f) fs (inl (there_with n found f (inr there)))
        | inr some ↦ all_there n (put_found found f) fs (inr (omega (arith, sum_by-cons (stands_at n) f fs, ap (λ b. cond {A = ℕ} b 1 0) e)))
      ]
    ] in
    cases (nat_eq n f.0) refl

pub found_there : (n : ℕ) (fs : List Placed) → 0 < times_found n fs → IsThere n (found_by_address fs)
unfolding found_by_address
found_there n fs some = all_there n nothing_found fs (inr some)

-- ---- this is there

at_here : {X : Type 0} (n k : ℕ) (v : X) (es : List (ℕ × X)) → n ≡ k → at n ((k, v) ∷ es) ≡ Some v
at_here n k v es same =
    let step : (o : Ordering) → MatchOrdering o (n < k) (n ≡ k) (k < n) → cond (is_eq o) (Some v) (at n es) ≡ Some v = elim [
      | Less ↦ λ lt. absurd (omega (arith, lt, same))
      | Equal ↦ λ eq. refl
      | Greater ↦ λ gt. absurd (omega (arith, gt, same))
    ] in
    step (nat_cmp n k) (ranks n k)

at_other : {X : Type 0} (n k : ℕ) (v : X) (es : List (ℕ × X)) → (n ≡ k → ⊥) → at n ((k, v) ∷ es) ≡ at n es
at_other n k v es other =
    let step : (o : Ordering) → MatchOrdering o (n < k) (n ≡ k) (k < n) → cond (is_eq o) (Some v) (at n es) ≡ at n es = elim [
      | Less ↦ λ lt. refl
      | Equal ↦ λ eq. absurd (other eq)
      | Greater ↦ λ gt. refl
    ] in
    step (nat_cmp n k) (ranks n k)

-- a number that was put
pub at_put : {X : Type 0} (n : ℕ) (v : X) (es : List (ℕ × X)) → at n (insert_entry nat_cmp es n v) ≡ Some v
at_put n v [] = at_here n n v [] refl
at_put n v (e ∷ es) =
    let step : (o : Ordering) → MatchOrdering o (n < e.0) (n ≡ e.0) (e.0 < n) → at n (match_ordering o ((n, v) ∷ e ∷ es) ((e.0, v) ∷ es) (e ∷ insert_entry nat_cmp es n v)) ≡ Some v = elim [
      | Less ↦ λ lt. at_here n n v (e ∷ es) refl
      | Equal ↦ λ eq. at_here n e.0 v es eq
      | Greater ↦ λ gt. at_other n e.0 e.1 (insert_entry nat_cmp es n v) (λ same. omega (arith, gt, same)) ∙ at_put n v es
    ] in
    step (nat_cmp n e.0) (ranks n e.0)

-- any other stays
pub at_kept : {X : Type 0} (n k : ℕ) (v b : X) (es : List (ℕ × X)) → (n ≡ k → ⊥) → at n es ≡ Some b → at n (insert_entry nat_cmp es k v) ≡ Some b
at_kept n k v b [] other found = absurd cc
at_kept n k v b (e ∷ es) other found =
    let later = insert_entry nat_cmp es k v in
    let step : (o : Ordering) → MatchOrdering o (k < e.0) (k ≡ e.0) (e.0 < k) → at n (match_ordering o ((k, v) ∷ e ∷ es) ((e.0, v) ∷ es) (e ∷ later)) ≡ Some b = elim [
      | Less ↦ λ lt. at_other n k v (e ∷ es) other ∙ found
      | Equal ↦ λ eq.
          let apart : n ≡ e.0 → ⊥ = λ same. other (same ∙ sym eq) in
          at_other n e.0 v es apart ∙ (sym (at_other n e.0 e.1 es apart) ∙ found)
      | Greater ↦ λ gt.
          elim (is_at (nat_cmp n) e.0) as (λ c. cond c (Some e.1) (at n es) ≡ Some b → cond c (Some e.1) (at n later) ≡ Some b) [
            | true ↦ λ h. h
            | false ↦ λ h. at_kept n k v b es other h
          ] found
    ] in
    step (nat_cmp k e.0) (ranks k e.0)

-- what is at a number is among the values
pub value_at : {X : Type 0} (n : ℕ) (v : X) (es : List (ℕ × X)) → at n es ≡ Some v → Contains (values_of es) v
value_at n v [] found = absurd cc
value_at n v (e ∷ es) found =
    let cases : (c : Bool) → cond c (Some e.1) (at n es) ≡ Some v → Contains (e.1 ∷ values_of es) v = elim [
      | true ↦ λ h. let same : e.1 ≡ v = cc in (0, omega arith, same)
      | false ↦ λ h. let k = value_at n v es h in (suc k.0, omega (arith, k.1), k.2)
    ] in
    cases (is_at (nat_cmp n) e.0) found
