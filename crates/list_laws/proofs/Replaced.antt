-- One element of a list is replaced by another.
use Rattle.std.proofs.Common.{◌≡◌, ℕ, ◌<◌, List, [], set, get_or, length, sym, subst, inl, inr, refl, zero, suc, replicate}
use Rattle.std.proofs.lemmas.Bool.{cases_eq}
use Rattle.std.proofs.lemmas.List.{get_or-set_same, get_or-set_other}

-- what holds at each index still does where the new element meets it
pub at_each-set : {X : Type 0} (P : ℕ → X → Type 0) (xs : List X) (i : ℕ) (y d : X) → i < length xs → P i y → ((k : ℕ) → P k (get_or xs k d)) → (k : ℕ) → P k (get_or (set xs i y) k d)
at_each-set P xs i y d h p all k =
    elim (cases_eq k i) [
      | inl e ↦ subst (λ n. P n (get_or (set xs i y) n d)) (sym e) (subst (P i) (sym (get_or-set_same xs i y d h)) p)
      | inr ne ↦ subst (P k) (sym (get_or-set_other xs i k y d ne)) (all k)
    ]

-- each of many empty lists is empty
pub get_or-empty : {X : Type 0} → (n k : ℕ) → let none : List X = [] in get_or (replicate n none) k none ≡ none
get_or-empty zero k = refl
get_or-empty (suc n) zero = refl
get_or-empty (suc n) (suc k) = get_or-empty n k
