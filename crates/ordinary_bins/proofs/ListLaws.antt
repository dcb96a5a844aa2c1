-- How often an address is listed after each change of the lists. Other crates may cite this file.
use Rattle.std.proofs.Common.{◌≡◌, ℕ, ◌+◌, ◌<◌, ◌≤◌, ◌≢◌, List, [], ◌∷◌, ◌++◌, cond, eqb, sym, ap, ◌∙◌, inl, inr, arith, refl, Some, map, set, get_or, length, zero, suc, true, false}
use Rattle.std.proofs.lemmas.Bool.Decides.{eqb_tells}
use Rattle.std.proofs.lemmas.Bool.{eq-eqb, cases_eq, cases_lt}
use Rattle.std.proofs.lemmas.List.{same_lists, get_or-map, get_or_default, get_or-set_same, get_or-set_other, length-map, length-set, length-replicate}
use Rattle.std.proofs.lemmas.List.Folds.{sum_by-replicate}
use Rattle.std.proofs.lemmas.List.Sums.{sum_by-cons, sum_by-set, sum_by-append}
use Rattle.ordinary_bins.specs.Lists.{first_of, last_of, times_in, times_listed, without, put_behind, put_front, list_at, bin_count, empty_lists}

-- how often an address stands in a list with one more chunk
pub times_in-cons : (n x : ℕ) (xs : List ℕ) → times_in n (x ∷ xs) ≡ cond (eqb n x) 1 0 + times_in n xs
times_in-cons n x xs = sum_by-cons (λ y. cond (eqb n y) 1 0) x xs

pub in_here : (n x : ℕ) (xs : List ℕ) → n ≡ x → times_in n (x ∷ xs) ≡ 1 + times_in n xs
in_here n x xs e = omega (arith, times_in-cons n x xs, ap (λ v. cond {A = ℕ} v 1 0) (eq-eqb n x e))

pub in_more : (n x : ℕ) (xs : List ℕ) → times_in n xs ≤ times_in n (x ∷ xs)
in_more n x xs = omega (arith, times_in-cons n x xs)

-- a chunk that isn't the first
pub in_later : (n x : ℕ) (xs : List ℕ) → n ≢ x → times_in n (x ∷ xs) ≡ times_in n xs
in_later n x xs ne = elim (eqb_tells n x) [
  | inl t ↦ absurd (ne t.1)
  | inr t ↦ omega (arith, times_in-cons n x xs, ap (λ v. cond {A = ℕ} v 1 0) t.0)
]

pub not_first : (n x : ℕ) (xs : List ℕ) → times_in n (x ∷ xs) ≡ 0 → n ≢ x
not_first n x xs h e = absurd (omega (arith, in_here n x xs e))

-- A list without a chunk.

pub without_other : (n at : ℕ) (xs : List ℕ) → n ≢ at → times_in n (without at xs) ≡ times_in n xs
without_other n at [] ne = refl
without_other n at (x ∷ xs) ne = elim (eqb_tells at x) [
  | inl t ↦ rw t.0 (without_other n at xs ne ∙ sym (in_later n x xs (λ e. ne (e ∙ sym t.1))))
  | inr t ↦ rw t.0 (omega (arith, without_other n at xs ne, times_in-cons n x xs, times_in-cons n x (without at xs)))
]

pub without_itself : (at : ℕ) (xs : List ℕ) → times_in at (without at xs) ≡ 0
without_itself at [] = refl
without_itself at (x ∷ xs) = elim (eqb_tells at x) [
  | inl t ↦ rw t.0 (without_itself at xs)
  | inr t ↦ rw t.0 (in_later at x (without at xs) t.1 ∙ without_itself at xs)
]

pub without_none : (at : ℕ) (xs : List ℕ) → times_in at xs ≡ 0 → without at xs ≡ xs
without_none at [] h = refl
without_none at (x ∷ xs) h = elim (eqb_tells at x) [
  | inl t ↦ absurd (not_first at x xs h t.1)
  | inr t ↦ rw t.0 (ap (λ (ys : List ℕ). x ∷ ys) (without_none at xs (omega (arith, in_more at x xs))))
]

-- A list with a chunk behind another.

pub behind_other : (n after at : ℕ) (xs : List ℕ) → n ≢ at → times_in n (put_behind after at xs) ≡ times_in n xs
behind_other n after at [] ne = refl
behind_other n after at (x ∷ xs) ne =
    let later = behind_other n after at xs ne in
    elim (eqb_tells after x) [
      | inl t ↦ rw t.0 (omega (arith, later, times_in-cons n x xs, times_in-cons n x (at ∷ put_behind after at xs), in_later n at (put_behind after at xs) ne))
      | inr t ↦ rw t.0 (omega (arith, later, times_in-cons n x xs, times_in-cons n x (put_behind after at xs)))
    ]

put_here : (after at x : ℕ) (xs : List ℕ) → eqb after x ≡ true → put_behind after at (x ∷ xs) ≡ x ∷ at ∷ put_behind after at xs
put_here after at x xs e = rw e refl

put_later : (after at x : ℕ) (xs : List ℕ) → eqb after x ≡ false → put_behind after at (x ∷ xs) ≡ x ∷ put_behind after at xs
put_later after at x xs e = rw e refl

pub behind_itself : (after at : ℕ) (xs : List ℕ) → times_in at (put_behind after at xs) ≡ times_in at xs + times_in after xs
behind_itself after at [] = refl
behind_itself after at (x ∷ xs) =
    let later = behind_itself after at xs in
    elim (eqb_tells after x) [
      | inl t ↦
          let two : times_in at (x ∷ at ∷ put_behind after at xs) ≡ times_in at (x ∷ xs) + times_in after (x ∷ xs) =
          omega (arith, later, times_in-cons at x xs, in_here after x xs t.1, times_in-cons at x (at ∷ put_behind after at xs), in_here at at (put_behind after at xs) refl) in
          ap (times_in at) (put_here after at x xs t.0) ∙ two
      | inr t ↦
          let one : times_in at (x ∷ put_behind after at xs) ≡ times_in at (x ∷ xs) + times_in after (x ∷ xs) =
          omega (arith, later, times_in-cons at x xs, in_later after x xs t.1, times_in-cons at x (put_behind after at xs)) in
          ap (times_in at) (put_later after at x xs t.0) ∙ one
    ]

pub behind_none : (after at : ℕ) (xs : List ℕ) → times_in after xs ≡ 0 → put_behind after at xs ≡ xs
behind_none after at [] h = refl
behind_none after at (x ∷ xs) h = elim (eqb_tells after x) [
  | inl t ↦ absurd (not_first after x xs h t.1)
  | inr t ↦ rw t.0 (ap (λ (ys : List ℕ). x ∷ ys) (behind_none after at xs (omega (arith, in_more after x xs))))
]

-- All lists together.

pub times_listed-cons : (n : ℕ) (xs : List ℕ) (lists : List (List ℕ)) → times_listed n (xs ∷ lists) ≡ times_in n xs + times_listed n lists
times_listed-cons n xs lists = sum_by-cons (times_in n) xs lists

-- what a change of each list leaves
times_listed-map : (n k : ℕ) (g : List ℕ → List ℕ) → ((xs : List ℕ) → times_in n (g xs) ≡ times_in n xs) → (lists : List (List ℕ)) → times_listed n (map g lists) ≡ times_listed n lists
times_listed-map n k g h [] = refl
times_listed-map n k g h (xs ∷ lists) =
    omega (arith, h xs, times_listed-map n k g h lists, times_listed-cons n xs lists, times_listed-cons n (g xs) (map g lists))

-- the chunk that is unlinked, and the others
pub unlinked_itself : (at : ℕ) (lists : List (List ℕ)) → times_listed at (map (without at) lists) ≡ 0
unlinked_itself at [] = refl
unlinked_itself at (xs ∷ lists) = omega (arith, unlinked_itself at lists, without_itself at xs, times_listed-cons at (without at xs) (map (without at) lists))

pub unlinked_other : (n at : ℕ) (lists : List (List ℕ)) → n ≢ at → times_listed n (map (without at) lists) ≡ times_listed n lists
unlinked_other n at lists ne = times_listed-map n 0 (without at) (λ xs. without_other n at xs ne) lists

-- the chunk that is put behind another, and the others
pub inserted_itself : (after at : ℕ) (lists : List (List ℕ)) → times_listed at (map (put_behind after at) lists) ≡ times_listed at lists + times_listed after lists
inserted_itself after at [] = refl
inserted_itself after at (xs ∷ lists) =
    omega (arith, inserted_itself after at lists, behind_itself after at xs, times_listed-cons at xs lists, times_listed-cons after xs lists, times_listed-cons at (put_behind after at xs) (map (put_behind after at) lists))

pub inserted_other : (n after at : ℕ) (lists : List (List ℕ)) → n ≢ at → times_listed n (map (put_behind after at) lists) ≡ times_listed n lists
inserted_other n after at lists ne = times_listed-map n 0 (put_behind after at) (λ xs. behind_other n after at xs ne) lists

-- each chunk after one is put in front of a bin
pub fronted : (n bin at : ℕ) (lists : List (List ℕ)) → bin < length lists → times_listed n (put_front bin at lists) ≡ times_listed n lists + cond (eqb n at) 1 0
fronted n bin at lists h =
    omega (arith, sum_by-set (times_in n) lists bin (at ∷ list_at bin lists) [] h, times_in-cons n at (list_at bin lists))

-- a list has no chunk more often than all lists together
pub within : (n bin : ℕ) (lists : List (List ℕ)) → times_in n (list_at bin lists) ≤ times_listed n lists
within n bin [] = omega arith
within n zero (xs ∷ lists) = omega (arith, times_listed-cons n xs lists)
within n (suc bin) (xs ∷ lists) = omega (arith, within n bin lists, times_listed-cons n xs lists)

-- the bin of a listed chunk
pub record ListedIn (n : ℕ) (lists : List (List ℕ)) : Type 0 where
  pub bin : ℕ
  pub below : bin < length lists
  pub stands : 1 ≤ times_in n (list_at bin lists)

pub bin_of_listed : (n : ℕ) (lists : List (List ℕ)) → 1 ≤ times_listed n lists → ListedIn n lists
bin_of_listed n [] h = absurd (omega (arith, h))
bin_of_listed n (xs ∷ lists) h = elim (cases_lt 0 (times_in n xs)) [
  | inl lt ↦ record { bin = 0; below = omega arith; stands = omega arith }
  | inr none ↦
      let later = bin_of_listed n lists (omega (arith, h, times_listed-cons n xs lists)) in
      record { bin = suc later.bin; below = omega (arith, later.below); stands = later.stands }
]

-- Where a chunk stands once, what its own list becomes.

-- a chunk of one list stands in no other
pub elsewhere : (n bin k : ℕ) (lists : List (List ℕ)) → bin < length lists → k ≢ bin → times_listed n lists ≤ 1 → 1 ≤ times_in n (list_at bin lists) → times_in n (list_at k lists) ≡ 0
elsewhere n bin k lists h ne once some =
    let rest = within n k (set lists bin []) in
    omega (arith, once, some, rest, sum_by-set (times_in n) lists bin [] [] h, ap (times_in n) (get_or-set_other lists bin k [] [] ne))

-- a change of each list that leaves those without a chunk is a change of the one that has it
changes_one : (g : List ℕ → List ℕ) (n bin : ℕ) (lists : List (List ℕ)) (ys : List ℕ) → g [] ≡ [] → ((xs : List ℕ) → times_in n xs ≡ 0 → g xs ≡ xs) → bin < length lists → times_listed n lists ≤ 1 → 1 ≤ times_in n (list_at bin lists) → g (list_at bin lists) ≡ ys → map g lists ≡ set lists bin ys
changes_one g n bin lists ys empty none h once some here =
    same_lists (map g lists) (set lists bin ys) (length-map lists g ∙ sym (length-set lists bin ys)) (λ k d lt.
    let inside : k < length lists = omega (arith, lt, length-map lists g) in
    let is : get_or (map g lists) k d ≡ g (list_at k lists) = get_or-map g lists k [] d inside in
    elim (cases_eq k bin) [
      | inl q ↦ is ∙ (ap (λ m. g (list_at m lists)) q ∙ (here ∙ (sym (get_or-set_same lists bin ys d h) ∙ ap (λ m. get_or (set lists bin ys) m d) (sym q))))
      | inr ne ↦ is ∙ (none (list_at k lists) (elsewhere n bin k lists h ne once some) ∙ (get_or_default lists k [] d inside ∙ sym (get_or-set_other lists bin k ys d ne)))
    ])

times_in-append : (n : ℕ) (xs ys : List ℕ) → times_in n (xs ++ ys) ≡ times_in n xs + times_in n ys
times_in-append n xs ys = sum_by-append (λ x. cond (eqb n x) 1 0) xs ys

behind_at : (after at : ℕ) (front back : List ℕ) → times_in after (front ++ after ∷ back) ≤ 1 → put_behind after at (front ++ after ∷ back) ≡ front ++ after ∷ at ∷ back
behind_at after at [] back h =
    let hit : eqb after after ≡ true = eq-eqb after after refl in
    let none : put_behind after at back ≡ back = behind_none after at back (omega (arith, h, in_here after after back refl)) in
    rw (hit, none) refl
behind_at after at (x ∷ front) back h =
    let some : 1 ≤ times_in after (front ++ after ∷ back) = omega (arith, times_in-append after front (after ∷ back), in_here after after back refl) in
    elim (eqb_tells after x) [
      | inl t ↦ absurd (omega (arith, h, some, in_here after x (front ++ after ∷ back) t.1))
      | inr t ↦ rw t.0 (ap (λ (ys : List ℕ). x ∷ ys) (behind_at after at front back (omega (arith, h, in_more after x (front ++ after ∷ back)))))
    ]

without_at : (at : ℕ) (front back : List ℕ) → times_in at (front ++ at ∷ back) ≤ 1 → without at (front ++ at ∷ back) ≡ front ++ back
without_at at [] back h =
    let hit : eqb at at ≡ true = eq-eqb at at refl in
    let none : without at back ≡ back = without_none at back (omega (arith, h, in_here at at back refl)) in
    rw (hit, none) refl
without_at at (x ∷ front) back h =
    let some : 1 ≤ times_in at (front ++ at ∷ back) = omega (arith, times_in-append at front (at ∷ back), in_here at at back refl) in
    elim (eqb_tells at x) [
      | inl t ↦ absurd (omega (arith, h, some, in_here at x (front ++ at ∷ back) t.1))
      | inr t ↦ rw t.0 (ap (λ (ys : List ℕ). x ∷ ys) (without_at at front back (omega (arith, h, in_more at x (front ++ at ∷ back)))))
    ]

-- a chunk stands in the list that is split at it
pub stands_in : (n bin : ℕ) (lists : List (List ℕ)) (front back : List ℕ) → list_at bin lists ≡ front ++ n ∷ back → 1 ≤ times_in n (list_at bin lists)
stands_in n bin lists front back is =
    omega (arith, ap (times_in n) is, times_in-append n front (n ∷ back), in_here n n back refl)

pub listed_in : (n bin : ℕ) (lists : List (List ℕ)) (front back : List ℕ) → list_at bin lists ≡ front ++ n ∷ back → 1 ≤ times_listed n lists
listed_in n bin lists front back is = omega (arith, stands_in n bin lists front back is, within n bin lists)

pub inserted_at : (after at bin : ℕ) (lists : List (List ℕ)) (front back : List ℕ) → bin < length lists → times_listed after lists ≤ 1 → list_at bin lists ≡ front ++ after ∷ back → map (put_behind after at) lists ≡ set lists bin (front ++ after ∷ at ∷ back)
inserted_at after at bin lists front back h once is =
    let few : times_in after (front ++ after ∷ back) ≤ 1 = omega (arith, once, within after bin lists, ap (times_in after) is) in
    changes_one (put_behind after at) after bin lists _ refl (behind_none after at) h once (stands_in after bin lists front back is) (ap (put_behind after at) is ∙ behind_at after at front back few)

-- what unlinking a chunk leaves of its own list
pub unlinked_at : (at bin : ℕ) (lists : List (List ℕ)) (front back : List ℕ) → bin < length lists → times_listed at lists ≤ 1 → list_at bin lists ≡ front ++ at ∷ back → map (without at) lists ≡ set lists bin (front ++ back)
unlinked_at at bin lists front back h once is =
    let few : times_in at (front ++ at ∷ back) ≤ 1 = omega (arith, once, within at bin lists, ap (times_in at) is) in
    changes_one (without at) at bin lists _ refl (without_none at) h once (stands_in at bin lists front back is) (ap (without at) is ∙ without_at at front back few)

-- the ends of a list stand in it
pub last_stands : (xs : List ℕ) (n : ℕ) → last_of xs ≡ Some n → 1 ≤ times_in n xs
last_stands [] n h = absurd cc
last_stands (x ∷ []) n h = let same : n ≡ x = cc in omega (arith, in_here n x [] same)
last_stands (x ∷ y ∷ ys) n h = omega (arith, last_stands (y ∷ ys) n h, in_more n x (y ∷ ys))

pub first_stands : (xs : List ℕ) (n : ℕ) → first_of xs ≡ Some n → 1 ≤ times_in n xs
first_stands [] n h = absurd cc
first_stands (x ∷ xs) n h = let same : n ≡ x = cc in omega (arith, in_here n x xs same)

pub last_listed : (bin : ℕ) (lists : List (List ℕ)) (n : ℕ) → last_of (list_at bin lists) ≡ Some n → 1 ≤ times_listed n lists
last_listed bin lists n h = omega (arith, last_stands (list_at bin lists) n h, within n bin lists)

pub first_listed : (bin : ℕ) (lists : List (List ℕ)) (n : ℕ) → first_of (list_at bin lists) ≡ Some n → 1 ≤ times_listed n lists
first_listed bin lists n h = omega (arith, first_stands (list_at bin lists) n h, within n bin lists)

-- No chunks.
pub none_listed : (n : ℕ) → times_listed n empty_lists ≡ 0
unfolding empty_lists
none_listed n = sum_by-replicate (times_in n) bin_count []

pub length-empty_lists : length empty_lists ≡ bin_count
unfolding empty_lists
length-empty_lists = length-replicate {A = List ℕ} bin_count []
