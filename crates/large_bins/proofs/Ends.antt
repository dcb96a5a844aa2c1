-- Both ends of a list, and where a chunk stands in it.
use Rattle.std.proofs.Common.{◌≡◌, ℕ, ◌+◌, ◌≤◌, List, [], ◌∷◌, ◌++◌, cond, eqb, sym, ap, ◌∙◌, inl, inr, arith, refl, Option, Some, None}
use Rattle.std.proofs.lemmas.Bool.Decides.{eqb_tells}
use Rattle.std.proofs.lemmas.List.{append_assoc}
use Rattle.std.proofs.lemmas.List.Sums.{sum_by-append}
use Rattle.ordinary_bins.specs.Lists.{first_of, last_of, list_at, times_in, times_listed}
use Rattle.ordinary_bins.proofs.ListLaws.{times_in-cons, in_here, listed_in}

-- a list that has a last chunk
pub record EndsIn (xs : List ℕ) (n : ℕ) : Type 0 where
  pub front : List ℕ
  pub is : xs ≡ front ++ n ∷ []

pub ends_in : (xs : List ℕ) (n : ℕ) → last_of xs ≡ Some n → EndsIn xs n
ends_in [] n h = absurd cc
ends_in (x ∷ []) n h = record { front = []; is = let e : x ≡ n = cc in ap (λ (m : ℕ). m ∷ []) e }
ends_in (x ∷ y ∷ ys) n h = let later = ends_in (y ∷ ys) n h in record { front = x ∷ later.front; is = ap (λ (zs : List ℕ). x ∷ zs) later.is }

pub no_last : (xs : List ℕ) → last_of xs ≡ None → xs ≡ []
no_last [] e = refl
no_last (x ∷ []) e = absurd cc
no_last (x ∷ y ∷ ys) e = let later : y ∷ ys ≡ [] = no_last (y ∷ ys) e in absurd cc

-- a list that has a first chunk
pub record BeginsWith (xs : List ℕ) (n : ℕ) : Type 0 where
  pub back : List ℕ
  pub is : xs ≡ n ∷ back

pub begins_with : (xs : List ℕ) (n : ℕ) → first_of xs ≡ Some n → BeginsWith xs n
begins_with [] n h = absurd cc
begins_with (x ∷ xs) n h = record { back = xs; is = let e : x ≡ n = cc in ap (λ (m : ℕ). m ∷ xs) e }

pub no_first : (xs : List ℕ) → first_of xs ≡ None → xs ≡ []
no_first [] e = refl
no_first (x ∷ xs) e = absurd cc

-- where a chunk stands in a list
pub record Stands (xs : List ℕ) (n : ℕ) : Type 0 where
  pub front : List ℕ
  pub back : List ℕ
  pub split : xs ≡ front ++ n ∷ back

pub stands_at : (n : ℕ) (xs : List ℕ) → 1 ≤ times_in n xs → Stands xs n
stands_at n [] some = absurd (omega (arith, some))
stands_at n (x ∷ xs) some = elim (eqb_tells n x) [
  | inl t ↦ record { front = []; back = xs; split = ap (λ m. m ∷ xs) (sym t.1) }
  | inr t ↦
      let later = stands_at n xs (omega (arith, some, times_in-cons n x xs, ap (λ b. cond {A = ℕ} b 1 0) t.0)) in
      record { front = x ∷ later.front; back = later.back; split = ap (λ (ys : List ℕ). x ∷ ys) later.split }
]

pub times_append : (n : ℕ) (xs ys : List ℕ) → times_in n (xs ++ ys) ≡ times_in n xs + times_in n ys
times_append n xs ys = sum_by-append (λ y. cond (eqb n y) 1 0) xs ys

pub stands_there : (n : ℕ) (front back : List ℕ) → 1 ≤ times_in n (front ++ n ∷ back)
stands_there n front back = omega (arith, times_append n front (n ∷ back), in_here n n back refl)

-- the chunk behind a listed one is listed
pub next_listed : (next at bin : ℕ) (lists : List (List ℕ)) (front back rest : List ℕ) → list_at bin lists ≡ front ++ at ∷ back → back ≡ next ∷ rest → 1 ≤ times_listed next lists
next_listed next at bin lists front back rest split is =
    listed_in next bin lists (front ++ at ∷ []) rest (split ∙ (ap (λ (ys : List ℕ). front ++ at ∷ ys) is ∙ sym (append_assoc front (at ∷ []) (next ∷ rest))))
