-- How many turns a walk over a list has left.
use Rattle.std.proofs.Common.{◌≡◌, ℕ, ◌+◌, ◌-◌, ◌<◌, ◌≤◌, List, [], ◌∷◌, ◌++◌, cond, eqb, sym, ap, ◌∙◌, subst, inl, inr, arith, refl, length, length-append, Option, Some, None}
use Rattle.std.proofs.lemmas.Bool.Decides.{eqb_tells, nat_tests}
use Rattle.std.proofs.lemmas.List.{append_assoc}
use Rattle.std.proofs.lemmas.List.Sums.{sum_by-append}
use Rattle.chunk_tags.specs.Sizes.{large_index_of}
use Rattle.ordinary_bins.specs.Lists.{bin_count, times_in, times_listed, list_at, first_of, last_of}
use Rattle.ordinary_bins.proofs.ListLaws.{in_here, in_more, within}
use Rattle.large_bins.proofs.Ends.{ends_in, begins_with}

-- how many chunks stand before the first place of an address
abbrev pub place_of : ℕ → List ℕ → ℕ
place_of n [] = 0
place_of n (x ∷ xs) = cond (eqb n x) 0 (1 + place_of n xs)

place_is : (n : ℕ) (front back : List ℕ) → times_in n (front ++ n ∷ back) ≤ 1 → place_of n (front ++ n ∷ back) ≡ length front
place_is n [] back h = elim (eqb_tells n n) [
  | inl t ↦ rw t.0 refl
  | inr t ↦ absurd (t.1 refl)
]
place_is n (x ∷ front) back h =
    let some : 1 ≤ times_in n (front ++ n ∷ back) = omega (arith, sum_by-append (λ y. cond (eqb n y) 1 0) front (n ∷ back), in_here n n back refl) in
    elim (eqb_tells n x) [
      | inl t ↦ absurd (omega (arith, h, some, in_here n x (front ++ n ∷ back) t.1))
      | inr t ↦ rw t.0 (let later : 1 + place_of n (front ++ n ∷ back) ≡ length (x ∷ front) = omega (arith, place_is n front back (omega (arith, h, in_more n x (front ++ n ∷ back)))) in later)
    ]

-- no address stands twice
pub record AreOnce (xs : List ℕ) : Type 0 where
  pub each : (n : ℕ) → times_in n xs ≤ 1

pub place_at : {xs : List ℕ} → AreOnce xs → (n : ℕ) (front back : List ℕ) → xs ≡ front ++ n ∷ back → place_of n xs ≡ length front
place_at once n front back is = ap (place_of n) is ∙ place_is n front back (subst (λ ys. times_in n ys ≤ 1) is (once.each n))

-- towards the back, and towards the front
abbrev pub turns_on : List ℕ → Option ℕ → ℕ
turns_on xs None = 0
turns_on xs (Some n) = length xs - place_of n xs

abbrev pub turns_back : List ℕ → Option ℕ → ℕ
turns_back xs None = 0
turns_back xs (Some n) = 1 + place_of n xs

pub fewer_on : {xs : List ℕ} → AreOnce xs → (n : ℕ) (front back : List ℕ) → xs ≡ front ++ n ∷ back → (next : Option ℕ) → first_of back ≡ next → turns_on xs next < turns_on xs (Some n)
fewer_on {xs} once n front back is None e =
    omega (arith, place_at once n front back is, ap length is, length-append front (n ∷ back))
fewer_on {xs} once n front back is (Some m) e =
    let b = begins_with back m e in
    let on : xs ≡ (front ++ n ∷ []) ++ m ∷ b.back = is ∙ (ap (λ (ys : List ℕ). front ++ n ∷ ys) b.is ∙ sym (append_assoc front (n ∷ []) (m ∷ b.back))) in
    omega (arith, place_at once n front back is, place_at once m (front ++ n ∷ []) b.back on, ap length on, length-append front (n ∷ []), length-append (front ++ n ∷ []) (m ∷ b.back))

pub fewer_back : {xs : List ℕ} → AreOnce xs → (n : ℕ) (front back : List ℕ) → xs ≡ front ++ n ∷ back → (next : Option ℕ) → last_of front ≡ next → turns_back xs next < turns_back xs (Some n)
fewer_back {xs} once n front back is None e = omega arith
fewer_back {xs} once n front back is (Some m) e =
    let b = ends_in front m e in
    let on : xs ≡ b.front ++ m ∷ n ∷ back = is ∙ (ap (λ (ys : List ℕ). ys ++ n ∷ back) b.is ∙ append_assoc b.front (m ∷ []) (n ∷ back)) in
    omega (arith, place_at once n front back is, place_at once m b.front (n ∷ back) on, ap length b.is, length-append b.front (m ∷ []))

pub once_in : (lists : List (List ℕ)) (bin : ℕ) → ((n : ℕ) → times_listed n lists ≤ 1) → AreOnce (list_at bin lists)
once_in lists bin once = record { each = λ n. omega (arith, once n, within n bin lists) }

-- a large bin is one of the bins
pub large_below : (s : ℕ) → large_index_of s < bin_count
large_below s = grind (arith, nat_tests)

pub large_above : (s : ℕ) → 1024 ≤ s → 64 ≤ large_index_of s
large_above s large = grind (arith, nat_tests)

pub bin_below : {bin : ℕ} (s : ℕ) → bin ≡ large_index_of s → bin < bin_count
bin_below {bin} s e = omega (arith, e, large_below s)
