-- Laws of lists of arenas' numbers. Other crates may cite this file.
use Rattle.std.proofs.Common.{◌≡◌, ℕ, zero, suc, ◌+◌, ◌-◌, ◌<◌, ◌≤◌, Bool, true, false, not, cond, ◌||◌, List, [], ◌∷◌, ◌++◌, length, ◌⊎◌, inl, inr, refl, sym, ap, subst, ◌∙◌, arith}
use Rattle.std.specs.Prelude.{◌==◌}
use Rattle.std.proofs.lemmas.Bool.Decides.{nat_tests}
use Rattle.std.proofs.lemmas.Bool.{cases_eq}
use Rattle.arena_choice.specs.Numbers.{has, Apart, without, lowest_from, lowest_unused, first_or, behind_or, with_second}

-- ---- tests of two numbers

pub itself : (a : ℕ) → (a == a) ≡ true
itself a = grind (arith, nat_tests)

pub same : (a b : ℕ) → (a == b) ≡ true → a ≡ b
same a b h = grind (arith, nat_tests)

pub differs : (x q a : ℕ) → (x == a) ≡ true → (q == a) ≡ false → (x == q) ≡ false
differs x q a e n = grind (arith, nat_tests)

pub turned : (a b : ℕ) → (a == b) ≡ false → (b == a) ≡ false
turned a b h = grind (arith, nat_tests)

or_true : (b : Bool) → (b || true) ≡ true
or_true true = refl
or_true false = refl

or_swap : (a b c : Bool) → (a || (b || c)) ≡ (b || (a || c))
or_swap true true c = refl
or_swap true false c = refl
or_swap false b c = refl

or_left : (a b : Bool) → (a || b) ≡ false → a ≡ false
or_left true b h = absurd cc
or_left false b h = refl

or_right : (a b : Bool) → (a || b) ≡ false → b ≡ false
or_right true b h = absurd cc
or_right false b h = h

or_assoc : (a b c : Bool) → (a || (b || c)) ≡ ((a || b) || c)
or_assoc true b c = refl
or_assoc false b c = refl

-- ---- what is in a list

pub has_first : (a : ℕ) (xs : List ℕ) → has a (a ∷ xs) ≡ true
has_first a xs = ap (λ b. b || has a xs) (itself a)

pub has_more : (a x : ℕ) (xs : List ℕ) → has a xs ≡ true → has a (x ∷ xs) ≡ true
has_more a x xs h = ap (λ b. (x == a) || b) h ∙ or_true (x == a)

pub has-append : (a : ℕ) (xs ys : List ℕ) → has a (xs ++ ys) ≡ (has a xs || has a ys)
has-append a [] ys = refl
has-append a (x ∷ xs) ys = ap (λ b. (x == a) || b) (has-append a xs ys) ∙ or_assoc (x == a) (has a xs) (has a ys)

-- a number of a list isn't one that isn't in it
pub apart_from : (q x : ℕ) (xs : List ℕ) → has q xs ≡ true → has x xs ≡ false → (q == x) ≡ false
apart_from q x xs h n =
    let go : (t : Bool) → (q == x) ≡ t → t ≡ false = elim [
      | true ↦ λ e. let yes : has x xs ≡ true = subst (λ y. has y xs ≡ true) (same q x e) h in absurd cc
      | false ↦ λ e. refl
    ] in
    go (q == x) refl

-- ---- taking a number out

pub other_stays : (q a : ℕ) (xs : List ℕ) → (q == a) ≡ false → has q (without a xs) ≡ has q xs
other_stays q a [] ne = refl
other_stays q a (x ∷ xs) ne =
    let go : (t : Bool) → (x == a) ≡ t → has q (cond (not t) (x ∷ without a xs) (without a xs)) ≡ ((x == q) || has q xs) = elim [
      | true ↦ λ e. other_stays q a xs ne ∙ sym (ap (λ b. b || has q xs) (differs x q a e ne))
      | false ↦ λ e. ap (λ b. (x == q) || b) (other_stays q a xs ne)
    ] in
    go (x == a) refl

pub gone : (a : ℕ) (xs : List ℕ) → has a (without a xs) ≡ false
gone a [] = refl
gone a (x ∷ xs) =
    let go : (t : Bool) → (x == a) ≡ t → has a (cond (not t) (x ∷ without a xs) (without a xs)) ≡ false = elim [
      | true ↦ λ e. gone a xs
      | false ↦ λ e. ap (λ b. b || has a (without a xs)) e ∙ gone a xs
    ] in
    go (x == a) refl

pub was_there : (q a : ℕ) (xs : List ℕ) → has q (without a xs) ≡ true → has q xs ≡ true
was_there q a xs h =
    let go : (t : Bool) → (q == a) ≡ t → has q xs ≡ true = elim [
      | true ↦ λ e. let no : has q (without a xs) ≡ false = subst (λ y. has y (without a xs) ≡ false) (sym (same q a e)) (gone a xs) in absurd cc
      | false ↦ λ e. sym (other_stays q a xs e) ∙ h
    ] in
    go (q == a) refl

pub Apart-without : (a : ℕ) (xs : List ℕ) → Apart xs → Apart (without a xs)
Apart-without a [] h = tt
Apart-without a (x ∷ xs) h =
    let go : (t : Bool) → (x == a) ≡ t → Apart (cond (not t) (x ∷ without a xs) (without a xs)) = elim [
      | true ↦ λ e. Apart-without a xs h.1
      | false ↦ λ e. (other_stays x a xs e ∙ h.0, Apart-without a xs h.1)
    ] in
    go (x == a) refl

pub length-without : (a : ℕ) (xs : List ℕ) → length (without a xs) ≤ length xs
length-without a [] = omega arith
length-without a (x ∷ xs) =
    let less : length (without a xs) ≤ length xs = length-without a xs in
    let go : (t : Bool) → length (cond (not t) (x ∷ without a xs) (without a xs)) ≤ length (x ∷ xs) = elim [ true ↦ omega arith | false ↦ omega arith ] in
    go (x == a)

pub length-without_one : (a : ℕ) (xs : List ℕ) → has a xs ≡ true → length (without a xs) + 1 ≤ length xs
length-without_one a [] h = absurd cc
length-without_one a (x ∷ xs) h =
    let go : (t : Bool) → (t || has a xs) ≡ true → length (cond (not t) (x ∷ without a xs) (without a xs)) + 1 ≤ length (x ∷ xs) = elim [
      | true ↦ λ had. omega (arith, length-without a xs)
      | false ↦ λ had. omega (arith, length-without_one a xs had)
    ] in
    go (x == a) h

-- numbers without repeats that are all in another list are no more than it has
pub no_more : (xs ys : List ℕ) → Apart xs → ((q : ℕ) → has q xs ≡ true → has q ys ≡ true) → length xs ≤ length ys
no_more [] ys apart among = omega arith
no_more (x ∷ xs) ys apart among =
    let had : has x ys ≡ true = among x (has_first x xs) in
    let less : length xs ≤ length (without x ys) = no_more xs (without x ys) apart.1 (λ q h. other_stays q x ys (apart_from q x xs h apart.0) ∙ among q (has_more q x xs h)) in
    omega (arith, less, length-without_one x ys had)

-- ---- the lowest number that isn't there

-- where the number that is found is there, all those were that were tried
tried : (k n : ℕ) (xs : List ℕ) → has (lowest_from k n xs) xs ≡ true → (q : ℕ) → n ≤ q → q ≤ n + k → has q xs ≡ true
tried zero n xs h q low high = let e : n ≡ q = omega arith in subst (λ y. has y xs ≡ true) e h
tried (suc k) n xs h q low high =
    let go : (t : Bool) → has n xs ≡ t → has (cond t (lowest_from k (n + 1) xs) n) xs ≡ true → has q xs ≡ true = elim [
      | true ↦ λ e there. elim (cases_eq q n) [
        | inl is ↦ subst (λ y. has y xs ≡ true) (sym is) e
        | inr not_n ↦ tried k (n + 1) xs there q (omega arith) (omega arith)
      ]
      | false ↦ λ e there. absurd cc
    ] in
    go (has n xs) refl h

-- one step of looking for it
pub lowest_step : (count a : ℕ) (xs : List ℕ) → a < count → has a xs ≡ true → lowest_from (count - a) a xs ≡ lowest_from (count - (a + 1)) (a + 1) xs
lowest_step count a xs lt h =
    let e : count - a ≡ suc (count - (a + 1)) = omega arith in
    ap (λ k. lowest_from k a xs) e ∙ ap (λ t. cond t (lowest_from (count - (a + 1)) (a + 1) xs) a) h

pub lowest_here : (count a : ℕ) (xs : List ℕ) → a < count → has a xs ≡ false → lowest_from (count - a) a xs ≡ a
lowest_here count a xs lt h =
    let e : count - a ≡ suc (count - (a + 1)) = omega arith in
    ap (λ k. lowest_from k a xs) e ∙ ap (λ t. cond t (lowest_from (count - (a + 1)) (a + 1) xs) a) h

pub lowest_end : (count a : ℕ) (xs : List ℕ) → count ≤ a → lowest_from (count - a) a xs ≡ a
lowest_end count a xs le = let e : count - a ≡ 0 = omega arith in ap (λ k. lowest_from k a xs) e

pub lowest_by_count : (n : ℕ) (xs : List ℕ) → n ≡ length xs → lowest_from n 0 xs ≡ lowest_unused xs
unfolding lowest_unused
lowest_by_count n xs e = ap (λ k. lowest_from k 0 xs) e

-- the numbers below another
down_from : ℕ → List ℕ
down_from zero = []
down_from (suc n) = n ∷ down_from n

below : (q n : ℕ) → has q (down_from n) ≡ true → q < n
unfolding down_from
below q zero h = absurd cc
below q (suc n) h =
    let go : (t : Bool) → (n == q) ≡ t → (t || has q (down_from n)) ≡ true → q < suc n = elim [
      | true ↦ λ e there. let is : n ≡ q = same n q e in omega arith
      | false ↦ λ e there. let lt : q < n = below q n there in omega arith
    ] in
    go (n == q) refl h

not_below : (n m : ℕ) → m ≤ n → has n (down_from m) ≡ false
not_below n m le =
    let go : (t : Bool) → has n (down_from m) ≡ t → t ≡ false = elim [
      | true ↦ λ e. let lt : n < m = below n m e in absurd (omega arith)
      | false ↦ λ e. refl
    ] in
    go (has n (down_from m)) refl

Apart-down_from : (n : ℕ) → Apart (down_from n)
unfolding down_from
Apart-down_from zero = tt
Apart-down_from (suc n) = (not_below n n (omega arith), Apart-down_from n)

length-down_from : (n : ℕ) → length (down_from n) ≡ n
unfolding down_from
length-down_from zero = refl
length-down_from (suc n) = omega (arith, length-down_from n)

pub lowest_not_there : (xs : List ℕ) → has (lowest_unused xs) xs ≡ false
unfolding lowest_unused
lowest_not_there xs =
    let n : ℕ = length xs in
    let go : (t : Bool) → has (lowest_from n 0 xs) xs ≡ t → t ≡ false = elim [
      | true ↦ λ e.
          let more : length (down_from (n + 1)) ≤ length xs = no_more (down_from (n + 1)) xs (Apart-down_from (n + 1)) (λ q h. let lt : q < n + 1 = below q (n + 1) h in tried n 0 xs e q (omega arith) (omega arith)) in
          let none : ⊥ = omega (arith, more, length-down_from (n + 1)) in
          absurd none
      | false ↦ λ e. refl
    ] in
    go (has (lowest_from n 0 xs) xs) refl

-- ---- a number behind the first

pub has-with_second : (q a : ℕ) (xs : List ℕ) → has q (with_second a xs) ≡ has q (a ∷ xs)
has-with_second q a [] = refl
has-with_second q a (x ∷ xs) = or_swap (x == q) (a == q) (has q xs)

pub Apart-with_second : (a : ℕ) (xs : List ℕ) → has a xs ≡ false → Apart xs → Apart (with_second a xs)
Apart-with_second a [] n h = (n, tt)
Apart-with_second a (x ∷ xs) n h =
    (ap (λ b. b || has x xs) (turned x a (or_left (x == a) (has a xs) n)) ∙ h.0, (or_right (x == a) (has a xs) n, h.1))

pub length-with_second : (a : ℕ) (xs : List ℕ) → length (with_second a xs) ≡ length xs + 1
length-with_second a [] = omega arith
length-with_second a (x ∷ xs) = omega arith

-- ---- what stands behind a number

first_in : (d x : ℕ) (xs : List ℕ) → (first_or d xs ≡ d) ⊎ (has (first_or d xs) (x ∷ xs) ≡ true)
first_in d x [] = inl refl
first_in d x (y ∷ ys) = inr (has_more y x (y ∷ ys) (has_first y ys))

pub behind_in : (d a : ℕ) (xs : List ℕ) → (behind_or d a xs ≡ d) ⊎ (has (behind_or d a xs) xs ≡ true)
behind_in d a [] = inl refl
behind_in d a (x ∷ xs) =
    let go : (t : Bool) → (cond t (first_or d xs) (behind_or d a xs) ≡ d) ⊎ (has (cond t (first_or d xs) (behind_or d a xs)) (x ∷ xs) ≡ true) = elim [
      | true ↦ first_in d x xs
      | false ↦ elim (behind_in d a xs) [
        | inl e ↦ inl e
        | inr h ↦ inr (has_more (behind_or d a xs) x xs h)
      ]
    ] in
    go (x == a)
