-- The first chunk of each size, along a list.
use Rattle.std.proofs.Common.{◌≡◌, ℕ, ◌<◌, ◌≤◌, ◌≢◌, List, [], ◌∷◌, ◌++◌, eqb, sym, ap, ◌∙◌, subst, inl, inr, arith, refl, true, false, Option, Some, None}
use Rattle.std.proofs.lemmas.Bool.{eq-eqb, ne_eqb}
use Rattle.std.proofs.lemmas.Bool.Decides.{eqb_tells}
use Rattle.std.proofs.lemmas.List.{append-nil}
use Rattle.chunk_tags.specs.BinOrder.{IsFalling}
use Rattle.ordinary_bins.specs.Lists.{first_of, times_in, without}
use Rattle.ordinary_bins.proofs.ListLaws.{times_in-cons, in_more, not_first}
use Rattle.large_bins.specs.SeenChunks.{chunks_by}
use Rattle.large_bins.specs.Places.{first_of_size, leads, leads_behind, AllAbove, AllBelow}

-- none stands there more often than in the list
pub behind_within : (f : ℕ → ℕ) (s n : ℕ) (xs : List ℕ) → times_in n (leads_behind f s xs) ≤ times_in n xs
behind_within f s n [] = omega arith
behind_within f s n (x ∷ xs) = elim (eqb_tells (f x) s) [
  | inl t ↦ rw t.0 (omega (arith, behind_within f s n xs, in_more n x xs))
  | inr t ↦ rw t.0 (omega (arith, behind_within f (f x) n xs, times_in-cons n x xs, times_in-cons n x (leads_behind f (f x) xs)))
]

pub leads_within : (f : ℕ → ℕ) (n : ℕ) (xs : List ℕ) → times_in n (leads f xs) ≤ times_in n xs
leads_within f n [] = omega arith
leads_within f n (x ∷ xs) = omega (arith, behind_within f (f x) n xs, times_in-cons n x xs, times_in-cons n x (leads_behind f (f x) xs))

-- where all of them are greater or smaller than a size, all chunks are
behind_above : (f : ℕ → ℕ) (s size : ℕ) (xs : List ℕ) → size < s → AllAbove f size (leads_behind f s xs) → AllAbove f size xs
behind_above f s size [] lt h = tt
behind_above f s size (x ∷ xs) lt h = elim (eqb_tells (f x) s) [
  | inl t ↦ (omega (arith, lt, t.1), behind_above f s size xs lt (rw t.0 at h))
  | inr t ↦ let k : (size < f x) × AllAbove f size (leads_behind f (f x) xs) = rw t.0 at h in (k.0, behind_above f (f x) size xs k.0 k.1)
]

pub leads_above : (f : ℕ → ℕ) (size : ℕ) (xs : List ℕ) → AllAbove f size (leads f xs) → AllAbove f size xs
leads_above f size [] h = tt
leads_above f size (x ∷ xs) h = (h.0, behind_above f (f x) size xs h.0 h.1)

pub behind_below : (f : ℕ → ℕ) (s size : ℕ) (xs : List ℕ) → s < size → AllBelow f size (leads_behind f s xs) → AllBelow f size xs
behind_below f s size [] lt h = tt
behind_below f s size (x ∷ xs) lt h = elim (eqb_tells (f x) s) [
  | inl t ↦ (omega (arith, lt, t.1), behind_below f s size xs lt (rw t.0 at h))
  | inr t ↦ let k : (f x < size) × AllBelow f size (leads_behind f (f x) xs) = rw t.0 at h in (k.0, behind_below f (f x) size xs k.0 k.1)
]

pub leads_below : (f : ℕ → ℕ) (size : ℕ) (xs : List ℕ) → AllBelow f size (leads f xs) → AllBelow f size xs
leads_below f size [] h = tt
leads_below f size (x ∷ xs) h = (h.0, behind_below f (f x) size xs h.0 h.1)

-- behind greater chunks
behind_append : (f : ℕ → ℕ) (s n : ℕ) (front back : List ℕ) → f n < s → AllAbove f (f n) front → leads_behind f s (front ++ n ∷ back) ≡ leads_behind f s front ++ n ∷ leads_behind f (f n) back
behind_append f s n [] back lt h = let no : eqb (f n) s ≡ false = ne_eqb (f n) s (λ e. absurd (omega (arith, e, lt))) in rw no refl
behind_append f s n (x ∷ front) back lt h = elim (eqb_tells (f x) s) [
  | inl t ↦ rw t.0 (behind_append f s n front back lt h.1)
  | inr t ↦ rw t.0 (ap (λ (ys : List ℕ). x ∷ ys) (behind_append f (f x) n front back h.0 h.1))
]

pub leads_append : (f : ℕ → ℕ) (n : ℕ) (front back : List ℕ) → AllAbove f (f n) front → leads f (front ++ n ∷ back) ≡ leads f front ++ n ∷ leads_behind f (f n) back
leads_append f n [] back h = refl
leads_append f n (x ∷ front) back h = ap (λ (ys : List ℕ). x ∷ ys) (behind_append f (f x) n front back h.0 h.1)

-- A chunk that is one of them, in a list by falling sizes.

-- sizes fall, from a size on
abbrev pub FallsFrom : (ℕ → ℕ) → ℕ → List ℕ → Type 0
FallsFrom f s [] = Unit {0}
FallsFrom f s (x ∷ xs) = (f x ≤ s) × FallsFrom f (f x) xs

pub falls_from : (f : ℕ → ℕ) (x : ℕ) (xs : List ℕ) → IsFalling (chunks_by f (x ∷ xs)) → FallsFrom f (f x) xs
falls_from f x [] h = tt
falls_from f x (y ∷ ys) h = (h.0, falls_from f y ys h.1)

-- where it stands: behind greater chunks
pub record LeadsAt (f : ℕ → ℕ) (ahead : List ℕ → List ℕ) (xs before behind : List ℕ) (n : ℕ) : Type 0 where
  pub front : List ℕ
  pub back : List ℕ
  pub split : xs ≡ front ++ n ∷ back
  pub before_is : before ≡ ahead front
  pub behind_is : behind ≡ leads_behind f (f n) back
  pub greater : AllAbove f (f n) front
  pub falls : FallsFrom f (f n) back

-- and smaller than the size before
record BehindAt (f : ℕ → ℕ) (s : ℕ) (xs before behind : List ℕ) (n : ℕ) : Type 0 where
  at : LeadsAt f (leads_behind f s) xs before behind n
  less : f n < s

passed : (f : ℕ → ℕ) (s x n : ℕ) (xs before behind : List ℕ) → f x ≡ s → eqb (f x) s ≡ true → BehindAt f s xs before behind n → BehindAt f s (x ∷ xs) before behind n
passed f s x n xs before behind e t b = record {
  at = record {
    front = x ∷ b.at.front;
    back = b.at.back;
    split = ap (λ (ys : List ℕ). x ∷ ys) b.at.split;
    before_is = rw t b.at.before_is;
    behind_is = b.at.behind_is;
    greater = (omega (arith, e, b.less), b.at.greater);
    falls = b.at.falls;
  };
  less = b.less;
}

behind_at : (f : ℕ → ℕ) (s n : ℕ) (xs before behind : List ℕ) → FallsFrom f s xs → leads_behind f s xs ≡ before ++ n ∷ behind → BehindAt f s xs before behind n
behind_at f s n [] [] behind falls e = absurd cc
behind_at f s n [] (y ∷ before) behind falls e = absurd cc
behind_at f s n (x ∷ xs) [] behind falls e = elim (eqb_tells (f x) s) [
  | inl t ↦ passed f s x n xs [] behind t.1 t.0 (behind_at f s n xs [] behind (subst (λ m. FallsFrom f m xs) t.1 falls.1) (rw t.0 at e))
  | inr t ↦
      let k : x ∷ leads_behind f (f x) xs ≡ n ∷ behind = rw t.0 at e in
      let here : x ≡ n = cc in
      let rest : leads_behind f (f x) xs ≡ behind = cc in
      record {
        at = record {
          front = [];
          back = xs;
          split = ap (λ m. m ∷ xs) here;
          before_is = refl;
          behind_is = sym rest ∙ ap (λ m. leads_behind f (f m) xs) here;
          greater = tt;
          falls = subst (λ m. FallsFrom f (f m) xs) here falls.1;
        };
        less = omega (arith, falls.0, t.1, ap f here);
      }
]
behind_at f s n (x ∷ xs) (y ∷ before) behind falls e = elim (eqb_tells (f x) s) [
  | inl t ↦ passed f s x n xs (y ∷ before) behind t.1 t.0 (behind_at f s n xs (y ∷ before) behind (subst (λ m. FallsFrom f m xs) t.1 falls.1) (rw t.0 at e))
  | inr t ↦
      let k : x ∷ leads_behind f (f x) xs ≡ y ∷ (before ++ n ∷ behind) = rw t.0 at e in
      let here : x ≡ y = cc in
      let rest : leads_behind f (f x) xs ≡ before ++ n ∷ behind = cc in
      let later = behind_at f (f x) n xs before behind falls.1 rest in
      record {
        at = record {
          front = x ∷ later.at.front;
          back = later.at.back;
          split = ap (λ (ys : List ℕ). x ∷ ys) later.at.split;
          before_is = rw t.0 (ap (λ m. m ∷ before) (sym here) ∙ ap (λ (ys : List ℕ). x ∷ ys) later.at.before_is);
          behind_is = later.at.behind_is;
          greater = (later.less, later.at.greater);
          falls = later.at.falls;
        };
        less = omega (arith, falls.0, later.less);
      }
]

pub leads_at : (f : ℕ → ℕ) (n : ℕ) (xs before behind : List ℕ) → IsFalling (chunks_by f xs) → leads f xs ≡ before ++ n ∷ behind → LeadsAt f (leads f) xs before behind n
leads_at f n [] [] behind falls e = absurd cc
leads_at f n [] (y ∷ before) behind falls e = absurd cc
leads_at f n (x ∷ xs) [] behind falls e =
    let here : x ≡ n = cc in
    let rest : leads_behind f (f x) xs ≡ behind = cc in
    record {
      front = [];
      back = xs;
      split = ap (λ m. m ∷ xs) here;
      before_is = refl;
      behind_is = sym rest ∙ ap (λ m. leads_behind f (f m) xs) here;
      greater = tt;
      falls = subst (λ m. FallsFrom f (f m) xs) here (falls_from f x xs falls);
    }
leads_at f n (x ∷ xs) (y ∷ before) behind falls e =
    let here : x ≡ y = cc in
    let rest : leads_behind f (f x) xs ≡ before ++ n ∷ behind = cc in
    let later = behind_at f (f x) n xs before behind (falls_from f x xs falls) rest in
    record {
      front = x ∷ later.at.front;
      back = later.at.back;
      split = ap (λ (ys : List ℕ). x ∷ ys) later.at.split;
      before_is = ap (λ m. m ∷ before) (sym here) ∙ ap (λ (ys : List ℕ). x ∷ ys) later.at.before_is;
      behind_is = later.at.behind_is;
      greater = (later.less, later.at.greater);
      falls = later.at.falls;
    }

-- A chunk leaves.

-- one that isn't the first of its size
behind_kept : (f : ℕ → ℕ) (s at : ℕ) (xs : List ℕ) → times_in at (leads_behind f s xs) ≡ 0 → leads_behind f s (without at xs) ≡ leads_behind f s xs
behind_kept f s at [] none = refl
behind_kept f s at (x ∷ xs) none = elim (eqb_tells (f x) s) [
  | inl t ↦
      let rest = behind_kept f s at xs (rw t.0 at none) in
      elim (eqb_tells at x) [
        | inl u ↦ rw (t.0, u.0) rest
        | inr u ↦ rw (u.0, t.0) rest
      ]
  | inr t ↦
      let k : times_in at (x ∷ leads_behind f (f x) xs) ≡ 0 = rw t.0 at none in
      let miss : eqb at x ≡ false = ne_eqb at x (not_first at x (leads_behind f (f x) xs) k) in
      rw (miss, t.0) (ap (λ (ys : List ℕ). x ∷ ys) (behind_kept f (f x) at xs (omega (arith, k, in_more at x (leads_behind f (f x) xs)))))
]

pub leads_kept : (f : ℕ → ℕ) (at : ℕ) (xs : List ℕ) → times_in at (leads f xs) ≡ 0 → leads f (without at xs) ≡ leads f xs
leads_kept f at [] none = refl
leads_kept f at (x ∷ xs) none =
    let miss : eqb at x ≡ false = ne_eqb at x (not_first at x (leads_behind f (f x) xs) none) in
    rw miss (ap (λ (ys : List ℕ). x ∷ ys) (behind_kept f (f x) at xs (omega (arith, none, in_more at x (leads_behind f (f x) xs)))))

-- the first of its size, with no equal behind it
pub leads_left : (f : ℕ → ℕ) (s : ℕ) (front back : List ℕ) → AllAbove f s front → FallsFrom f s back → first_of_size f s back ≡ None → leads f (front ++ back) ≡ leads f front ++ leads_behind f s back
leads_left f s front [] above falls none = ap (leads f) (append-nil front) ∙ sym (append-nil (leads f front))
leads_left f s front (y ∷ ys) above falls none = elim (eqb_tells (f y) s) [
  | inl t ↦ let k : Some y ≡ None = rw t.0 at none in absurd cc
  | inr t ↦ rw t.0 (leads_append f y front ys (lower front above))
]
  where
    lower : (zs : List ℕ) → AllAbove f s zs → AllAbove f (f y) zs
    lower [] h = tt
    lower (z ∷ zs) h = (omega (arith, h.0, falls.0), lower zs h.1)

pub one_of_size : (f : ℕ → ℕ) (s next : ℕ) (back : List ℕ) → first_of back ≡ Some next → f next ≡ s → first_of_size f s back ≡ Some next
one_of_size f s next [] is e = absurd cc
one_of_size f s next (y ∷ ys) is e =
    let here : y ≡ next = cc in
    let yes : eqb (f y) s ≡ true = eq-eqb (f y) s (ap f here ∙ e) in
    rw yes is

pub other_size : (f : ℕ → ℕ) (s next : ℕ) (back : List ℕ) → first_of back ≡ Some next → f next ≢ s → first_of_size f s back ≡ None
other_size f s next [] is ne = absurd cc
other_size f s next (y ∷ ys) is ne =
    let here : y ≡ next = cc in
    let no : eqb (f y) s ≡ false = ne_eqb (f y) s (λ e. ne (sym (ap f here) ∙ e)) in
    rw no refl

-- an equal one behind it
pub record HasEqual (f : ℕ → ℕ) (s : ℕ) (back : List ℕ) (next : ℕ) : Type 0 where
  pub rest : List ℕ
  pub is : back ≡ next ∷ rest
  pub size : f next ≡ s

pub has_equal : (f : ℕ → ℕ) (s : ℕ) (back : List ℕ) (next : ℕ) → first_of_size f s back ≡ Some next → HasEqual f s back next
has_equal f s [] next e = absurd cc
has_equal f s (y ∷ ys) next e = elim (eqb_tells (f y) s) [
  | inl t ↦
      let k : Some y ≡ Some next = rw t.0 at e in
      let here : y ≡ next = cc in
      record { rest = ys; is = ap (λ m. m ∷ ys) here; size = ap f (sym here) ∙ t.1 }
  | inr t ↦ let k : None ≡ Some next = rw t.0 at e in absurd cc
]

pub behind_equal : (f : ℕ → ℕ) (s next : ℕ) (rest : List ℕ) → f next ≡ s → leads_behind f s (next ∷ rest) ≡ leads_behind f s rest
behind_equal f s next rest e = let yes : eqb (f next) s ≡ true = eq-eqb (f next) s e in rw yes refl

pub behind_less : (f : ℕ → ℕ) (s next : ℕ) (rest : List ℕ) → f next < s → leads_behind f s (next ∷ rest) ≡ next ∷ leads_behind f (f next) rest
behind_less f s next rest lt = let no : eqb (f next) s ≡ false = ne_eqb (f next) s (λ e. absurd (omega (arith, e, lt))) in rw no refl
