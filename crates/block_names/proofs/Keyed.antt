-- Laws of places that stand by their keys: what is found behind a change at one of them, and what they weigh together.
use Rattle.std.proofs.Common.{◌≡◌, ℕ, ◌+◌, ◌<◌, inl, inr, Bool, true, false, cond, List, [], ◌∷◌, Option, Some, None, is_some, IsSome, sum_by, refl, sym, ap, ◌∙◌, arith}
use Rattle.std.specs.BTreeMap.{insert_entry}
use Rattle.std.specs.List.Sorted.{IsStrictlySortedBy}
use Rattle.std.specs.Map.{lookup, set_value, remove_entry, keys_of, values_of}
use Rattle.std.specs.Option.{unwrap_or}
use Rattle.std.specs.Ordering.{nat_cmp, is_eq, match_ordering}
use Rattle.std.specs.declared.cmp.Ordering.{Ordering}
use Rattle.std.specs.declared.cmp.Ordering.TheVariants.{Less, Equal, Greater}
use Rattle.std.proofs.lemmas.Bool.{cases_Bool, false_from_ne_true}
use Rattle.std.proofs.lemmas.Cmp.{ranked, nat_cmp_total, eq_by_cmp_equiv}
use Rattle.std.specs.Cmp.{nat_cmp_is}
use Rattle.std.specs.Ordering.{MatchOrdering}
use Rattle.std.proofs.lemmas.List.Sums.{sum_by-cons}
use Rattle.std.proofs.lemmas.Map.{lookup-remove_entry, lookup-set_value}
use Rattle.std.proofs.lemmas.Map.Keys.{IsDistinct-from_sorted}
use Rattle.block_names.specs.Names.{is_name}

module _ {X : Type 0} where
  -- ---- something else is put where the test passes

  pub set_none : (t : ℕ → Bool) (es : List (ℕ × X)) (w : X) → is_some (lookup t es) ≡ false → set_value t es w ≡ es
  set_none t [] w h = refl
  set_none t (e ∷ es) w h = elim (cases_Bool (t e.0)) [
    | inl hit ↦ let no : true ≡ false = sym (ap (λ v. is_some (cond v (Some e.1) (lookup t es))) hit) ∙ h in absurd cc
    | inr miss ↦
        let later : is_some (lookup t es) ≡ false = sym (ap (λ v. is_some (cond v (Some e.1) (lookup t es))) miss) ∙ h in
        ap (λ v. cond v ((e.0, w) ∷ es) (e ∷ set_value t es w)) miss ∙ ap (λ fs. e ∷ fs) (set_none t es w later)
  ]

  pub set_set : (t : ℕ → Bool) (es : List (ℕ × X)) (v w : X) → set_value t (set_value t es v) w ≡ set_value t es w
  set_set t [] v w = refl
  set_set t (e ∷ es) v w = elim (cases_Bool (t e.0)) [
    | inl hit ↦
        ap (λ u. set_value t (cond u ((e.0, v) ∷ es) (e ∷ set_value t es v)) w) hit
        ∙ (ap (λ u. cond u ((e.0, w) ∷ es) ((e.0, v) ∷ set_value t es w)) hit
        ∙ sym (ap (λ u. cond u ((e.0, w) ∷ es) (e ∷ set_value t es w)) hit))
    | inr miss ↦
        ap (λ u. set_value t (cond u ((e.0, v) ∷ es) (e ∷ set_value t es v)) w) miss
        ∙ (ap (λ u. cond u ((e.0, w) ∷ set_value t es v) (e ∷ set_value t (set_value t es v) w)) miss
        ∙ (ap (λ fs. e ∷ fs) (set_set t es v w) ∙ sym (ap (λ u. cond u ((e.0, w) ∷ es) (e ∷ set_value t es w)) miss)))
  ]

-- ---- names that differ

by_order : (n k : ℕ) (r : Ordering) → MatchOrdering r (n < k) (n ≡ k) (k < n) → is_eq r ≡ true → n ≡ k
by_order n k Less h e = absurd cc
by_order n k Equal h e = h
by_order n k Greater h e = absurd cc

pub name_is : (n k : ℕ) → is_name n k ≡ true → n ≡ k
name_is n k e = by_order n k (nat_cmp n k) (ranked n k (nat_cmp n k) refl) e

pub name_here : (n : ℕ) → is_name n n ≡ true
name_here n = sym (ap is_eq (nat_cmp_is n n Equal refl))

names_apart : (n name : ℕ) → (n ≡ name → ⊥) → is_name name n ≡ false
names_apart n name other = false_from_ne_true (is_name name n) (λ same. other (sym (name_is name n same)))

same_by : (k x y : ℕ) → is_name k x ≡ true → is_name k y ≡ is_name x y
same_by k x y hit = ap (λ m. is_name m y) (name_is k x hit)

-- ---- something else is put under a name

module _ {X : Type 0} where
  lookup_set : (k n : ℕ) (es : List (ℕ × X)) (w : X) → IsSome (lookup (is_name k) es) →
      lookup (is_name n) (set_value (is_name k) es w) ≡ cond (is_name k n) (Some w) (lookup (is_name n) es)
  lookup_set k n es w there = lookup-set_value (eq_by_cmp_equiv nat_cmp_total) (is_name k) (same_by k) n w es there

  pub set_same : (k : ℕ) (es : List (ℕ × X)) (w : X) → IsSome (lookup (is_name k) es) → lookup (is_name k) (set_value (is_name k) es w) ≡ Some w
  set_same k es w there = lookup_set k k es w there ∙ ap (λ v. cond v (Some w) (lookup (is_name k) es)) (name_here k)

  pub set_other : (k n : ℕ) → (n ≡ k → ⊥) → (es : List (ℕ × X)) (w : X) → lookup (is_name n) (set_value (is_name k) es w) ≡ lookup (is_name n) es
  set_other k n other es w = elim (cases_Bool (is_some (lookup (is_name k) es))) [
    | inl there ↦ lookup_set k n es w there ∙ ap (λ v. cond v (Some w) (lookup (is_name n) es)) (names_apart n k other)
    | inr none ↦ ap (λ (fs : List (ℕ × X)). lookup (is_name n) fs) (set_none (is_name k) es w none)
  ]

-- ---- an empty place comes in

module _ {X : Type 0} where
  -- the key of the first entry is another
  first_differs : (t : ℕ → Bool) (e : ℕ × X) (es : List (ℕ × X)) → is_some (lookup t (e ∷ es)) ≡ false → t e.0 ≡ false
  first_differs t e es h = elim (cases_Bool (t e.0)) [
    | inl hit ↦ let no : true ≡ false = sym (ap (λ v. is_some (cond v (Some e.1) (lookup t es))) hit) ∙ h in absurd cc
    | inr miss ↦ miss
  ]

  later_none : (t : ℕ → Bool) (e : ℕ × X) (es : List (ℕ × X)) → is_some (lookup t (e ∷ es)) ≡ false → is_some (lookup t es) ≡ false
  later_none t e es h = sym (ap (λ v. is_some (cond v (Some e.1) (lookup t es))) (first_differs t e es h)) ∙ h

  -- it is found
  here_step : (k : ℕ) (w : X) (e : ℕ × X) (es more : List (ℕ × X)) (o : Ordering) → is_name k e.0 ≡ is_eq o → is_some (lookup (is_name k) more) ≡ true →
      is_some (lookup (is_name k) (match_ordering o ((k, w) ∷ e ∷ es) ((e.0, w) ∷ es) (e ∷ more))) ≡ true
  here_step k w e es more Less same rest = ap (λ v. is_some (cond v (Some w) (lookup (is_name k) (e ∷ es)))) (name_here k)
  here_step k w e es more Equal same rest = ap (λ v. is_some (cond v (Some w) (lookup (is_name k) es))) same
  here_step k w e es more Greater same rest = ap (λ v. is_some (cond v (Some e.1) (lookup (is_name k) more))) same ∙ rest

  pub insert_here : (k : ℕ) (w : X) (es : List (ℕ × X)) → is_some (lookup (is_name k) (insert_entry nat_cmp es k w)) ≡ true
  insert_here k w [] = ap (λ v. is_some (cond v (Some w) None)) (name_here k)
  insert_here k w (e ∷ es) = here_step k w e es (insert_entry nat_cmp es k w) (nat_cmp k e.0) refl (insert_here k w es)

  -- it weighs what is in it
  weigh_step : (f : X → ℕ) (k : ℕ) (w : X) (e : ℕ × X) (es more : List (ℕ × X)) (o : Ordering) → is_eq o ≡ false →
      sum_by f (values_of more) ≡ f w + sum_by f (values_of es) →
      sum_by f (values_of (match_ordering o ((k, w) ∷ e ∷ es) ((e.0, w) ∷ es) (e ∷ more))) ≡ f w + sum_by f (values_of (e ∷ es))
  weigh_step f k w e es more Less differ rest = omega (arith, sum_by-cons f w (values_of (e ∷ es)))
  weigh_step f k w e es more Equal differ rest = absurd cc
  weigh_step f k w e es more Greater differ rest = omega (arith, sum_by-cons f e.1 (values_of more), sum_by-cons f e.1 (values_of es), rest)

  pub insert_weighs : (f : X → ℕ) (k : ℕ) (w : X) (es : List (ℕ × X)) → is_some (lookup (is_name k) es) ≡ false →
      sum_by f (values_of (insert_entry nat_cmp es k w)) ≡ f w + sum_by f (values_of es)
  insert_weighs f k w [] none = omega (arith, sum_by-cons f w [])
  insert_weighs f k w (e ∷ es) none =
      weigh_step f k w e es (insert_entry nat_cmp es k w) (nat_cmp k e.0) (first_differs (is_name k) e es none)
      (insert_weighs f k w es (later_none (is_name k) e es none))

-- what is found by another test, or by the same that found nothing
module _ {X : Type 0} where
  none_held : (r : Option (Option X)) → is_some r ≡ false → unwrap_or r None ≡ None
  none_held None h = refl
  none_held (Some x) h = absurd cc

  held_step : (s : ℕ → Bool) (k : ℕ) (e : ℕ × Option X) (es more : List (ℕ × Option X)) (o : Ordering) → (s k ≡ true → is_some (lookup s (e ∷ es)) ≡ false) → is_eq o ≡ false →
      unwrap_or (lookup s more) None ≡ unwrap_or (lookup s es) None →
      unwrap_or (lookup s (match_ordering o ((k, None) ∷ e ∷ es) ((e.0, None) ∷ es) (e ∷ more))) None ≡ unwrap_or (lookup s (e ∷ es)) None
  held_step s k e es more Less empty differ rest = elim (cases_Bool (s k)) [
    | inl hit ↦
        ap (λ v. unwrap_or (cond v (Some None) (lookup s (e ∷ es))) None) hit ∙ sym (none_held (lookup s (e ∷ es)) (empty hit))
    | inr miss ↦ ap (λ v. unwrap_or (cond v (Some None) (lookup s (e ∷ es))) None) miss
  ]
  held_step s k e es more Equal empty differ rest = absurd cc
  held_step s k e es more Greater empty differ rest = elim (cases_Bool (s e.0)) [
    | inl hit ↦
        ap (λ v. unwrap_or (cond v (Some e.1) (lookup s more)) None) hit ∙ sym (ap (λ v. unwrap_or (cond v (Some e.1) (lookup s es)) None) hit)
    | inr miss ↦
        ap (λ v. unwrap_or (cond v (Some e.1) (lookup s more)) None) miss
        ∙ (rest ∙ sym (ap (λ v. unwrap_or (cond v (Some e.1) (lookup s es)) None) miss))
  ]

  pub held_insert : (s : ℕ → Bool) (k : ℕ) (es : List (ℕ × Option X)) → (s k ≡ true → is_some (lookup s es) ≡ false) → is_some (lookup (is_name k) es) ≡ false →
      unwrap_or (lookup s (insert_entry nat_cmp es k None)) None ≡ unwrap_or (lookup s es) None
  held_insert s k [] empty none = elim (cases_Bool (s k)) [
    | inl hit ↦ ap (λ v. unwrap_or (cond v (Some None) None) None) hit
    | inr miss ↦ ap (λ v. unwrap_or (cond v (Some None) None) None) miss
  ]
  held_insert s k (e ∷ es) empty none =
      held_step s k e es (insert_entry nat_cmp es k None) (nat_cmp k e.0) empty (first_differs (is_name k) e es none)
      (held_insert s k es (λ hit. later_none s e es (empty hit)) (later_none (is_name k) e es none))

-- ---- a place goes

-- where names rise, what is found then: nothing under the name, and under each other what was there
pub lookup_removed : {X : Type 0} (k n : ℕ) (es : List (ℕ × X)) → IsStrictlySortedBy nat_cmp (keys_of es) →
    lookup (is_name n) (remove_entry (is_name k) es) ≡ cond (is_name k n) None (lookup (is_name n) es)
lookup_removed k n es rise =
    lookup-remove_entry (eq_by_cmp_equiv nat_cmp_total) (is_name k) (same_by k) n es
    (IsDistinct-from_sorted nat_cmp (keys_of es) rise)
