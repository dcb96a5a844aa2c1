-- What is found at an address, by what was put.
use Rattle.std.proofs.Common.{◌≡◌, ℕ, suc, ◌+◌, ◌-◌, ◌<◌, ◌≤◌, ◌≢◌, Bool, true, false, cond, List, [], ◌∷◌, ◌++◌, length, take, drop, filter, fold, get_or, Option, Some, None, inl, inr, refl, sym, ap, ◌∙◌, subst, arith}
use Rattle.std.specs.Prelude.{nat_eq, not, ◌&&◌}
use Rattle.std.specs.List.Sorted.{IsStableByKey, ties}
use Rattle.std.specs.Cmp.{nat_cmp_is}
use Rattle.std.specs.Ordering.{nat_cmp, is_lt}
use Rattle.std.specs.declared.cmp.Ordering.TheVariants.{Less, Equal, Greater}
use Rattle.std.proofs.Math.Path.{fun_ext}
use Rattle.std.proofs.Math.Seq.{drop-cons}
use Rattle.std.proofs.lemmas.Bool.{cases_eq, cases_lt, eq-eqb, ne_eqb}
use Rattle.std.proofs.lemmas.List.{get_or-take, get_or-drop, get_or_default, take-append-drop, length-take, length-drop}
use Rattle.std.proofs.lemmas.List.Elements.{filter_agree}
use Rattle.std.proofs.lemmas.List.Sums.{fold-append}
use Rattle.stats_text.specs.declared.views.Place.TheVariants as places
use Rattle.world_view.specs.Places.{Placed, FoundAt, put_found, nothing_found, found_by_address}
use Rattle.world_view.specs.Tables.{IsByAddress, IsEnd}

pub found_more : (fs : List Placed) (f : Placed) → found_by_address (fs ++ f ∷ []) ≡ put_found (found_by_address fs) f
unfolding found_by_address
found_more fs f = fold-append put_found nothing_found fs (f ∷ [])

-- ---- a sort that keeps the order of what is at one address

-- what is put depends on what was at that address alone
kept_at : (fs : List Placed) (s t : FoundAt) (n : ℕ) → s n ≡ t n → fold put_found s fs n ≡ fold put_found t fs n
kept_at [] s t n same = same
kept_at (f ∷ fs) s t n same = kept_at fs (put_found s f) (put_found t f) n (ap (λ (x : Option _). cond (nat_eq f.0 n) (Some f.1) x) same)

-- what was put elsewhere doesn't matter
only_there : (fs : List Placed) (s : FoundAt) (n : ℕ) → fold put_found s fs n ≡ fold put_found s (filter (λ f. nat_eq f.0 n) fs) n
only_there [] s n = refl
only_there (f ∷ fs) s n =
    let later : List Placed = filter (λ g. nat_eq g.0 n) fs in
    let cases : (b : Bool) → nat_eq f.0 n ≡ b → fold put_found (put_found s f) fs n ≡ fold put_found s (cond b (f ∷ later) later) n = elim [
      | true ↦ λ is. only_there fs (put_found s f) n
      | false ↦ λ is. kept_at fs (put_found s f) s n (ap (λ b. cond b (Some f.1) (s n)) is) ∙ only_there fs s n
    ] in
    cases (nat_eq f.0 n) refl

-- two addresses tie where they are one
tie_is : (n m : ℕ) → (not (is_lt (nat_cmp n m)) && not (is_lt (nat_cmp m n))) ≡ nat_eq m n
tie_is n m = elim (cases_eq m n) [
  | inl same ↦ rw (sym (nat_cmp_is n m Equal (sym same)), sym (nat_cmp_is m n Equal same), eq-eqb m n same) refl
  | inr other ↦ elim (cases_lt n m) [
    | inl less ↦ rw (sym (nat_cmp_is n m Less less), ne_eqb m n other) refl
    | inr more ↦
        let less : m < n = omega (arith, more, other) in
        rw (sym (nat_cmp_is n m Greater less), sym (nat_cmp_is m n Less less), ne_eqb m n other) refl
  ]
]

pub by_address_same : (fs gs : List Placed) → IsStableByKey (λ (f : Placed). f.0) nat_cmp fs gs → found_by_address gs ≡ found_by_address fs
unfolding found_by_address
by_address_same fs gs stable =
    let at : ℕ → Placed → Bool = λ n f. nat_eq f.0 n in
    let tied : (n : ℕ) (hs : List Placed) → filter (ties (λ (x y : Placed). is_lt (nat_cmp x.0 y.0)) (n, places.Top)) hs ≡ filter (at n) hs = λ n hs. filter_agree _ (at n) (λ f. tie_is n f.0) hs in
    fun_ext (λ n.
    only_there gs nothing_found n
    ∙ ap (λ hs. fold put_found nothing_found hs n) (sym (tied n gs) ∙ stable (n, places.Top) ∙ tied n fs)
    ∙ sym (only_there fs nothing_found n))

-- ---- what is found by address

-- what was put elsewhere isn't found
elsewhere : (fs : List Placed) (s : FoundAt) (n : ℕ) → ((k : ℕ) (d : Placed) → k < length fs → (get_or fs k d).0 ≢ n) → fold put_found s fs n ≡ s n
elsewhere [] s n other = refl
elsewhere (f ∷ fs) s n other =
    elsewhere fs (put_found s f) n (λ k d low. other (suc k) d (omega (arith, low)))
    ∙ ap (λ b. cond b (Some f.1) (s n)) (ne_eqb f.0 n (other 0 f (omega arith)))

-- what stands last is found
last_found : (front back : List Placed) (f : Placed) (n : ℕ) → ((k : ℕ) (d : Placed) → k < length front → (get_or front k d).0 ≤ f.0) → f.0 ≤ n → ((k : ℕ) (d : Placed) → k < length back → n < (get_or back k d).0) →
    fold put_found nothing_found (front ++ f ∷ back) n ≡ cond (nat_eq f.0 n) (Some f.1) None
last_found front back f n before up_to behind =
    ap (λ g. g n) (fold-append put_found nothing_found front (f ∷ back))
    ∙ elsewhere back (put_found (fold put_found nothing_found front) f) n (λ k d low same. omega (arith, behind k d low, same))
    ∙ elim (cases_eq f.0 n) [
      | inl same ↦ rw (eq-eqb f.0 n same) refl
      | inr other ↦ rw (ne_eqb f.0 n other) (elsewhere front nothing_found n (λ k d low same. omega (arith, before k d low, same, up_to, other)))
    ]

-- a list around one of its elements
around : (fs : List Placed) (k : ℕ) (d : Placed) → k < length fs → take k fs ++ get_or fs k d ∷ drop (suc k) fs ≡ fs
around fs k d low = ap (λ rest. take k fs ++ rest) (sym (drop-cons fs k d low)) ∙ take-append-drop k fs

found_at_end : (fs : List Placed) (n k : ℕ) (f : Placed) → IsByAddress fs → k < length fs → IsEnd fs n (suc k) → f ≡ get_or fs k f → found_by_address fs n ≡ cond (nat_eq f.0 n) (Some f.1) None
unfolding found_by_address
found_at_end fs n k f rise low end is =
    let front : length (take k fs) ≤ k = omega (arith, length-take k fs) in
    let behind : length (drop (suc k) fs) ≡ length fs - suc k = length-drop (suc k) fs in
    let all : take k fs ++ f ∷ drop (suc k) fs ≡ fs = ap (λ x. take k fs ++ x ∷ drop (suc k) fs) is ∙ around fs k f low in
    ap (λ gs. fold put_found nothing_found gs n) (sym all)
    ∙ last_found (take k fs) (drop (suc k) fs) f n
    (λ i d here. rw (get_or-take k fs i d (omega (arith, here, front)), is, get_or_default fs k f d low) (rise i k d (omega (arith, here, front)) low))
    (rw is (end.0 k f (omega arith) (omega arith)))
    (λ i d here. rw (get_or-drop (suc k) fs i d) (end.1 (suc k + i) d (omega arith) (omega (arith, here, behind))))

found_last : (fs : List Placed) (n end : ℕ) (f g : Placed) → IsByAddress fs → 0 < end → end ≤ length fs → IsEnd fs n end → found_by_address fs n ≡ cond (nat_eq (get_or fs (end - 1) f).0 n) (Some (get_or fs (end - 1) g).1) None
found_last fs n end f g rise some within ends =
    let last : end ≡ suc (end - 1) = omega (arith, some) in
    let low : end - 1 < length fs = omega (arith, some, within) in
    let it : Placed = get_or fs (end - 1) f in
    found_at_end fs n (end - 1) it rise low (subst (λ e. IsEnd fs n e) last ends) (get_or_default fs (end - 1) f it low)
    ∙ ap (λ (x : Placed). cond (nat_eq it.0 n) (Some x.1) None) (get_or_default fs (end - 1) f g low)

-- what is found at an address is the last that is found up to it, if that is there
pub found_is : (seen fs : List Placed) (n end : ℕ) (f g : Placed) (there : Bool) → seen ≡ fs → IsByAddress fs → (end ≡ 0 → ⊥) → end ≤ length seen → IsEnd seen n end → there ≡ nat_eq (get_or seen (end - 1) f).0 n →
    cond there (Some (get_or seen (end - 1) g).1) None ≡ found_by_address fs n
found_is seen fs n end f g there same rise some within ends is =
    ap (λ b. cond b (Some (get_or seen (end - 1) g).1) None) is
    ∙ sym (found_last seen n end f g (subst IsByAddress (sym same) rise) (omega (arith, some)) within ends)
    ∙ ap (λ (l : List Placed). found_by_address l n) same

pub found_nowhere : (fs : List Placed) (n : ℕ) → IsEnd fs n 0 → found_by_address fs n ≡ None
unfolding found_by_address
found_nowhere fs n end = elsewhere fs nothing_found n (λ k d low same. omega (arith, end.1 k d (omega arith) low, same))

-- where one up to an address stands, and behind it none or one behind that address, all up to the address ends
pub ends_behind : (fs : List Placed) (n i : ℕ) → IsByAddress fs → i < length fs → ((f : Placed) → (get_or fs i f).0 ≤ n) → (i + 1 < length fs → (f : Placed) → n < (get_or fs (i + 1) f).0) → IsEnd fs n (i + 1)
ends_behind fs n i rise low last next = (
  λ k f from below. omega (arith, rise k i f (omega (arith, below)) low, last f),
  λ k f from below. omega (arith, rise (i + 1) k f from below, next (omega (arith, from, below)) f),
)
