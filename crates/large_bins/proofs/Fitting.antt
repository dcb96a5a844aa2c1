-- The best fit of a large bin, by addresses.
use Rattle.std.proofs.Common.{◌≡◌, ℕ, ◌<◌, ◌≤◌, min, List, [], ◌∷◌, ◌++◌, eqb, leb, sym, ap, ◌∙◌, subst, inl, inr, arith, refl, true, false, filter, Option, Some, None}
use Rattle.std.specs.Option.{option_map, unwrap_or}
use Rattle.std.proofs.lemmas.Bool.{le-leb, lt-leb, eq-eqb, ne_eqb}
use Rattle.std.proofs.lemmas.Bool.Decides.{eqb_tells}
use Rattle.std.proofs.lemmas.List.{append-nil, append_assoc}
use Rattle.chunk_tags.specs.declared.tiles.Chunk.{Chunk}
use Rattle.ordinary_bins.specs.Lists.{last_of}
use Rattle.chunk_tags.specs.BinOrder.{smallest_fit, lesser, of_size, second_of, best_of, second_of_size}
use Rattle.large_bins.specs.SeenChunks.{chunks_by}
use Rattle.large_bins.specs.Places.{first_of_size, leads_behind, AllAbove, AllBelow, EndsBelow, FitsLast}
use Rattle.large_bins.proofs.Ends.{ends_in, no_last}
use Rattle.large_bins.proofs.FirstLaws.{FallsFrom, behind_below}
use Rattle.large_bins.proofs.Insertion.{At}

-- Which size is the smallest that fits.

fit_none : (f : ℕ → ℕ) (nb : ℕ) (xs : List ℕ) → AllBelow f nb xs → smallest_fit nb (chunks_by f xs) ≡ None
fit_none f nb [] h = refl
fit_none f nb (x ∷ xs) h = let no : leb nb (f x) ≡ false = lt-leb nb (f x) h.0 in rw no (fit_none f nb xs h.1)

pub none_best : (f : ℕ → ℕ) (nb : ℕ) (xs : List ℕ) → AllBelow f nb xs → best_of nb (chunks_by f xs) ≡ None
none_best f nb xs h = ap (λ o. second_of_size o (chunks_by f xs)) (fit_none f nb xs h)

-- no smaller one behind a chunk, where of the other sizes none fits
fit_behind : (f : ℕ → ℕ) (nb s : ℕ) (xs : List ℕ) → nb ≤ s → AllBelow f nb (leads_behind f s xs) → lesser s (smallest_fit nb (chunks_by f xs)) ≡ s
fit_behind f nb s [] le h = refl
fit_behind f nb s (x ∷ xs) le h = elim (eqb_tells (f x) s) [
  | inl t ↦
      let yes : leb nb (f x) ≡ true = le-leb nb (f x) (omega (arith, le, t.1)) in
      let later = fit_behind f nb s xs le (rw t.0 at h) in
      let same : lesser (f x) (smallest_fit nb (chunks_by f xs)) ≡ s = ap (λ m. lesser m (smallest_fit nb (chunks_by f xs))) t.1 ∙ later in
      rw (yes, same) (let least : min s s ≡ s = omega arith in least)
  | inr t ↦
      let k : (f x < nb) × AllBelow f nb (leads_behind f (f x) xs) = rw t.0 at h in
      ap (lesser s) (fit_none f nb (x ∷ xs) (k.0, behind_below f (f x) nb xs k.0 k.1))
]

fit_is : (f : ℕ → ℕ) (nb n : ℕ) (front back : List ℕ) → nb ≤ f n → AllAbove f (f n) front → AllBelow f nb (leads_behind f (f n) back) → smallest_fit nb (chunks_by f (front ++ n ∷ back)) ≡ Some (f n)
fit_is f nb n [] back le above below = let yes : leb nb (f n) ≡ true = le-leb nb (f n) le in rw yes (ap Some (fit_behind f nb (f n) back le below))
fit_is f nb n (x ∷ front) back le above below =
    let yes : leb nb (f x) ≡ true = le-leb nb (f x) (omega (arith, le, above.0)) in
    let later = fit_is f nb n front back le above.1 below in
    let least : min (f x) (f n) ≡ f n = omega (arith, above.0) in
    rw (yes, later) (ap Some least)

-- The chunks of a size.

abbrev pub same : (ℕ → ℕ) → ℕ → List ℕ → List ℕ
same f s xs = filter (λ n. eqb (f n) s) xs

pub of_size_is : (f : ℕ → ℕ) (s : ℕ) (xs : List ℕ) → of_size s (chunks_by f xs) ≡ chunks_by f (same f s xs)
of_size_is f s [] = refl
of_size_is f s (x ∷ xs) = elim (eqb_tells (f x) s) [
  | inl t ↦ rw t.0 (ap (λ (cs : List Chunk). record { at = x; size = f x } ∷ cs) (of_size_is f s xs))
  | inr t ↦ rw t.0 (of_size_is f s xs)
]

pub second_is : (f : ℕ → ℕ) (xs : List ℕ) → option_map (λ (c : Chunk). c.at) (second_of (chunks_by f xs)) ≡ second_of xs
second_is f [] = refl
second_is f (x ∷ []) = refl
second_is f (x ∷ y ∷ ys) = refl

same_past : (f : ℕ → ℕ) (s : ℕ) (front xs : List ℕ) → AllAbove f s front → same f s (front ++ xs) ≡ same f s xs
same_past f s [] xs h = refl
same_past f s (x ∷ front) xs h =
    let no : eqb (f x) s ≡ false = ne_eqb (f x) s (λ e. absurd (omega (arith, e, h.0))) in
    rw no (same_past f s front xs h.1)

none_same : (f : ℕ → ℕ) (s r : ℕ) (xs : List ℕ) → r < s → FallsFrom f r xs → same f s xs ≡ []
none_same f s r [] lt falls = refl
none_same f s r (x ∷ xs) lt falls =
    let no : eqb (f x) s ≡ false = ne_eqb (f x) s (λ e. absurd (omega (arith, e, lt, falls.0))) in
    rw no (none_same f s (f x) xs (omega (arith, lt, falls.0)) falls.1)

-- behind the first of the equals its second stands, if there are two
second_behind : (f : ℕ → ℕ) (n : ℕ) (back : List ℕ) → FallsFrom f (f n) back → second_of (n ∷ same f (f n) back) ≡ Some (unwrap_or (first_of_size f (f n) back) n)
second_behind f n [] falls = refl
second_behind f n (y ∷ ys) falls = elim (eqb_tells (f y) (f n)) [
  | inl t ↦ rw t.0 refl
  | inr t ↦ rw t.0 (ap (λ (zs : List ℕ). second_of (n ∷ zs)) (none_same f (f n) (f y) ys (omega (arith, falls.0, t.1)) falls.1))
]

pub best_is : (f : ℕ → ℕ) (nb n : ℕ) (front back : List ℕ) → nb ≤ f n → AllAbove f (f n) front → FallsFrom f (f n) back → AllBelow f nb (leads_behind f (f n) back) → option_map (λ (c : Chunk). c.at) (best_of nb (chunks_by f (front ++ n ∷ back))) ≡ Some (unwrap_or (first_of_size f (f n) back) n)
best_is f nb n front back le above falls below =
    let s = f n in
    let xs = front ++ n ∷ back in
    let hit : eqb (f n) s ≡ true = eq-eqb (f n) s refl in
    let equals : same f s xs ≡ n ∷ same f s back = same_past f s front (n ∷ back) above ∙ rw hit refl in
    ap (λ o. option_map (λ (c : Chunk). c.at) (second_of_size o (chunks_by f xs))) (fit_is f nb n front back le above below)
    ∙ (ap (λ (ds : List Chunk). option_map (λ (c : Chunk). c.at) (second_of ds)) (of_size_is f s xs)
    ∙ (second_is f (same f s xs) ∙ (ap second_of equals ∙ second_behind f n back falls)))

-- A walk from the back: over chunks that are too small.

pub back_at : {f : ℕ → ℕ} {nb : ℕ} {xs : List ℕ} {n : ℕ} → (w : EndsBelow f nb xs (Some n)) → At xs n (ends_in w.front n w.last).front w.rest
back_at {n = n} w =
    let e = ends_in w.front n w.last in
    record { split = w.split ∙ (ap (λ (ys : List ℕ). ys ++ w.rest) e.is ∙ append_assoc e.front (n ∷ []) w.rest) }

pub back_on : {f : ℕ → ℕ} {nb : ℕ} {xs : List ℕ} {next : Option ℕ} {n : ℕ} → (w : EndsBelow f nb xs (Some n)) → f n < nb → last_of (ends_in w.front n w.last).front ≡ next → EndsBelow f nb xs next
back_on {n = n} w lt e = record { front = (ends_in w.front n w.last).front; rest = n ∷ w.rest; split = (back_at w).split; below = (lt, w.below); last = e }

pub back_fits : {f : ℕ → ℕ} {nb : ℕ} {xs : List ℕ} {n : ℕ} → (w : EndsBelow f nb xs (Some n)) → nb ≤ f n → FitsLast f nb xs n
back_fits {n = n} w le = record { front = (ends_in w.front n w.last).front; back = w.rest; split = (back_at w).split; fits = le; below = w.below }

pub back_none : {f : ℕ → ℕ} {nb : ℕ} {xs : List ℕ} → EndsBelow f nb xs None → AllBelow f nb xs
back_none {f} {nb} {xs} w = subst (AllBelow f nb) (sym (w.split ∙ ap (λ (ys : List ℕ). ys ++ w.rest) (no_last w.front w.last))) w.below
