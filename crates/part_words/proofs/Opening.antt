-- Laws on which addresses have a word. Other crates may cite this file.
use Rattle.std.proofs.Common.{◌≡◌, ℕ, ◌+◌, ◌-◌, ◌*◌, ◌/◌, ◌%◌, ◌<◌, ◌≤◌, max, List, [], ◌∷◌, get_or, length, map, Bool, true, false, eqb, sym, ap, ◌∙◌, refl, subst, inl, inr, arith, zero, suc}
use Rattle.std.proofs.lemmas.Bool.{cases_eq, cases_lt, eqb-true}
use Rattle.std.proofs.Math.ListN.{get_or-map, get_or-eq_default}
use Rattle.std.proofs.Math.Nat.{mod-eq_of_lt, mul-add-mod_self_right}
use Rattle.std.proofs.lemmas.Nat.{div-add-mod', div-mul-add}
use Rattle.part_words.specs.Extents.{Extent, index_of, IsOpen, IsWithinPart, AreOpen, IsWider, changed_at, extended}
use Rattle.part_words.specs.Parts.{Parts, word_at, extent_of}

-- what stands at an index after a change there, and what stands elsewhere
pub get_or-changed_same : {X : Type 0} (none : X) (k : ℕ) (f : X → X) (xs : List X) → get_or (changed_at none k f xs) k none ≡ f (get_or xs k none)
get_or-changed_same none zero f [] = refl
get_or-changed_same none zero f (x ∷ xs) = refl
get_or-changed_same none (suc k) f [] = get_or-changed_same none k f []
get_or-changed_same none (suc k) f (x ∷ xs) = get_or-changed_same none k f xs

pub get_or-changed_other : {X : Type 0} (none : X) (k : ℕ) (f : X → X) (xs : List X) (i : ℕ) → (i ≡ k → ⊥) → get_or (changed_at none k f xs) i none ≡ get_or xs i none
get_or-changed_other none zero f [] zero ne = absurd (ne refl)
get_or-changed_other none zero f [] (suc i) ne = refl
get_or-changed_other none zero f (x ∷ xs) zero ne = absurd (ne refl)
get_or-changed_other none zero f (x ∷ xs) (suc i) ne = refl
get_or-changed_other none (suc k) f [] zero ne = refl
get_or-changed_other none (suc k) f [] (suc i) ne = get_or-changed_other none k f [] i (λ e. ne (ap suc e))
get_or-changed_other none (suc k) f (x ∷ xs) zero ne = refl
get_or-changed_other none (suc k) f (x ∷ xs) (suc i) ne = get_or-changed_other none k f xs i (λ e. ne (ap suc e))

-- a part is as long as before at least
changed_more : (k n : ℕ) (xs : List ℕ) (i : ℕ) → get_or xs i 0 ≤ get_or (changed_at 0 k (max n) xs) i 0
changed_more k n xs i =
    elim (cases_eq i k) [
      | inl e ↦ subst (λ j. get_or xs j 0 ≤ get_or (changed_at 0 k (max n) xs) j 0) (sym e) (omega (arith, get_or-changed_same 0 k (max n) xs))
      | inr ne ↦ omega (arith, get_or-changed_other 0 k (max n) xs i ne)
    ]

-- what was open stays open
pub IsOpen-extended : (e : Extent) (at len a : ℕ) → IsOpen e a → IsOpen (extended e at len) a
IsOpen-extended e at len a at_a =
    let n = index_of e.base at in
    record { place = at_a.place; below = omega (arith, at_a.below, changed_more (n / e.width) (n % e.width + len / 16) e.words (index_of e.base a / e.width)) }

pub AreOpen-extended : (e : Extent) (at len a l : ℕ) → AreOpen e a l → AreOpen (extended e at len) a l
AreOpen-extended e at len a l all = λ n h. IsOpen-extended e at len (a + 16 * n) (all n h)

-- a number of the same part
pub same_part : (w a n : ℕ) → a % w + n < w → ((a + n) / w ≡ a / w) × ((a + n) % w ≡ a % w + n)
same_part w a n h =
    let e : a + n ≡ a / w * w + (a % w + n) = omega (arith, div-add-mod' a w) in
    (ap (λ m. m / w) e ∙ div-mul-add (a / w) w (a % w + n) h, ap (λ m. m % w) e ∙ (mul-add-mod_self_right (a / w) w (a % w + n) ∙ mod-eq_of_lt h))

-- each word of an opened range is open
pub AreOpen-range : (e : Extent) (at len : ℕ) → IsWithinPart e at len → AreOpen (extended e at len) at len
AreOpen-range e at len within n h =
    let i = index_of e.base at in
    let j = i / e.width in
    let moved : index_of e.base (at + 16 * n) ≡ i + n = omega (arith, within.place) in
    let same = same_part e.width i n (omega (arith, within.fits, within.whole)) in
    record {
      place = omega (arith, within.place, moved);
      below = rw (moved, same.0, same.1, get_or-changed_same 0 j (max (i % e.width + len / 16)) e.words) (omega (arith, within.whole));
    }

-- ranges side by side
pub AreOpen-append : (e : Extent) (at l m : ℕ) → l % 16 ≡ 0 → AreOpen e at l → AreOpen e (at + l) m → AreOpen e at (l + m)
AreOpen-append e at l m whole low high n h =
    elim (cases_lt (16 * n) l) [
      | inl below ↦ low n below
      | inr past ↦ let k = n - l / 16 in
          let same : at + l + 16 * k ≡ at + 16 * n = omega (arith, past, whole) in
          subst (IsOpen e) same (high k (omega (arith, past, whole, h)))
    ]

-- the beginning of a range
pub AreOpen-take : (e : Extent) (at l m : ℕ) → m ≤ l → AreOpen e at l → AreOpen e at m
AreOpen-take e at l m le all n h = all n (omega (arith, h, le))

-- the end of a range
pub AreOpen-drop : (e : Extent) (at l m : ℕ) → m % 16 ≡ 0 → AreOpen e at l → AreOpen e (at + m) (l - m)
AreOpen-drop e at l m whole all n h =
    let same : at + 16 * (n + m / 16) ≡ at + m + 16 * n = omega (arith, whole) in
    subst (IsOpen e) same (all (n + m / 16) (omega (arith, h, whole)))

-- a place in a range
pub IsOpen-within : (e : Extent) (at l m : ℕ) → m % 16 ≡ 0 → m < l → AreOpen e at l → IsOpen e (at + m)
IsOpen-within e at l m whole lt all =
    let same : at + 16 * (m / 16) ≡ at + m = omega (arith, whole) in
    subst (IsOpen e) same (all (m / 16) (omega (arith, whole, lt)))

-- what covers an extent
pub IsOpen-covers : (e f : Extent) (a : ℕ) → IsWider e f → IsOpen e a → IsOpen f a
IsOpen-covers e f a c at_a =
    record {
      place = rw c.base at_a.place;
      below = rw (c.base, c.width) (omega (arith, at_a.below, c.words (index_of e.base a / e.width)));
    }

pub IsWithinPart-covers : (e f : Extent) (at len : ℕ) → IsWider e f → IsWithinPart e at len → IsWithinPart f at len
IsWithinPart-covers e f at len c range =
    record { place = rw c.base range.place; whole = range.whole; fits = rw (c.base, c.width) range.fits }

pub AreOpen-covers : (e f : Extent) (at len : ℕ) → IsWider e f → AreOpen e at len → AreOpen f at len
AreOpen-covers e f at len c all = λ n h. IsOpen-covers e f (at + 16 * n) c (all n h)

words_more : (k n : ℕ) (xs ys : List ℕ) → ((i : ℕ) → get_or xs i 0 ≤ get_or ys i 0) → (i : ℕ) → get_or (changed_at 0 k (max n) xs) i 0 ≤ get_or (changed_at 0 k (max n) ys) i 0
words_more k n xs ys le i =
    elim (cases_eq i k) [
      | inl e ↦ rw (e, get_or-changed_same 0 k (max n) xs, get_or-changed_same 0 k (max n) ys) (omega (arith, le k))
      | inr other ↦ rw (get_or-changed_other 0 k (max n) xs i other, get_or-changed_other 0 k (max n) ys i other) (le i)
    ]

pub Covers-extended : (e f : Extent) (at len : ℕ) → IsWider e f → IsWider (extended e at len) (extended f at len)
Covers-extended e f at len c =
    record {
      base = c.base;
      width = c.width;
      words = rw (c.base, c.width) (words_more _ _ e.words f.words c.words);
    }

pub Covers-more : (e f : Extent) (at len : ℕ) → IsWider e f → IsWider e (extended f at len)
Covers-more e f at len c =
    record {
      base = c.base;
      width = c.width;
      words = λ part. omega (arith, c.words part, changed_more (index_of f.base at / f.width) (index_of f.base at % f.width + len / 16) f.words part);
    }

pub Covers-same : (e : Extent) → IsWider e e
Covers-same e = record { base = refl; width = refl; words = λ part. omega arith }

-- a word that isn't the default is open
pub IsOpen-word : {T : Type 0} (ws : Parts T) (d : T) (at : ℕ) → (word_at ws d at ≡ d → ⊥) → IsOpen (extent_of ws) at
unfolding word_at
IsOpen-word ws d at ne = placed ws d at ne (eqb (ws.base + 16 * index_of ws.base at) at) refl
  where
    short : {T : Type 0} (ws : List T) (i : ℕ) (d : T) → length ws ≤ i → get_or ws i d ≡ d
    short ws i d h = get_or-eq_default ws d h

    words : {T : Type 0} (ps : List (List T)) (q r : ℕ) (d : T) → (get_or (get_or ps q []) r d ≡ d → ⊥) → r < get_or (map length ps) q 0
    words ps q r d other =
        elim (cases_lt r (get_or (map length ps) q 0)) [
          | inl lt ↦ lt
          | inr past ↦ absurd (other (short (get_or ps q []) r d (omega (arith, past, get_or-map length ps q []))))
        ]

    placed : {T : Type 0} (ws : Parts T) (d : T) (at : ℕ) → (word_at ws d at ≡ d → ⊥) → (b : Bool) → eqb (ws.base + 16 * index_of ws.base at) at ≡ b → IsOpen (extent_of ws) at
    placed ws d at other true e = record { place = eqb-true _ _ e; below = words ws.parts _ _ d (rw e at other) }
    placed ws d at other false e = absurd (rw e at other refl)

-- a word that is open has a part
pub within : (xs : List ℕ) (q a : ℕ) → a < get_or xs q 0 → q < length xs
within [] q a h = absurd (omega arith)
within (x ∷ xs) zero a h = omega arith
within (x ∷ xs) (suc q) a h = omega (arith, within xs q a h)

unchanged : (k n : ℕ) (xs : List ℕ) → k < length xs → n ≤ get_or xs k 0 → changed_at 0 k (max n) xs ≡ xs
unchanged k n [] below le = absurd (omega arith)
unchanged zero n (x ∷ xs) below le = let same : max n x ≡ x = omega arith in ap (λ y. y ∷ xs) same
unchanged (suc k) n (x ∷ xs) below le = ap (λ ys. x ∷ ys) (unchanged k n xs (omega arith) le)

-- nothing is opened where each word of the range is open
pub extended-open : (e : Extent) (at len : ℕ) → IsWithinPart e at len → 0 < len → AreOpen e at len → extended e at len ≡ e
extended-open e at len range some all =
    let i = index_of e.base at in
    let n = len / 16 - 1 in
    let last = all n (omega (arith, range.whole, some)) in
    let moved : index_of e.base (at + 16 * n) ≡ i + n = omega (arith, range.place) in
    let same = same_part e.width i n (omega (arith, range.fits, range.whole, some)) in
    let below : i % e.width + n < get_or e.words (i / e.width) 0 = rw (moved, same.0, same.1) at last.below in
    ap (λ ws. record e { words = ws }) (unchanged (i / e.width) (i % e.width + len / 16) e.words (within e.words (i / e.width) (i % e.width + n) below) (omega (arith, below, range.whole, some)))

-- a range of a part, by its distance from the beginning of the part
pub IsWithinPart-part : (e : Extent) (part offset len : ℕ) → offset % 16 ≡ 0 → len % 16 ≡ 0 → 0 < len → offset + len ≤ 16 * e.width → IsWithinPart e (e.base + 16 * (part * e.width) + offset) len
IsWithinPart-part e part offset len aligned whole some fits =
    let place = offset / 16 in
    let i : index_of e.base (e.base + 16 * (part * e.width) + offset) ≡ part * e.width + place = omega (arith, aligned) in
    let below : place < e.width = omega (arith, aligned, some, fits) in
    let r : (part * e.width + place) % e.width ≡ place = mul-add-mod_self_right part e.width place ∙ mod-eq_of_lt below in
    record {
      place = rw i (omega (arith, aligned));
      whole = whole;
      fits = rw (i, r) (omega (arith, aligned, whole, fits));
    }
