-- The arenas in list order are all arenas, and going place by place meets them in that order.
use Rattle.std.proofs.Common.{◌≡◌, ℕ, ◌+◌, ◌<◌, ◌≤◌, Bool, true, false, List, [], ◌∷◌, ◌++◌, refl, arith}
use Rattle.std.specs.Prelude.{nat_lt, ◌==◌, filter, All, IsPermutation, if◌then◌else◌}
use Rattle.std.proofs.lemmas.List.{append_assoc}
use Rattle.std.proofs.lemmas.List.Elements.{All-head, All-tail, filter_passes}
use Rattle.std.proofs.lemmas.List.Sorted.{IsPermutation-refl, IsPermutation-trans, IsPermutation-cons, IsPermutation-middle, All-permutation}
use Rattle.std.proofs.lemmas.Bool.Decides.{nat_tests}
use Rattle.stats_text.specs.Views.{Arena}
use Rattle.stats_text.specs.Totals.{insert_by_place, in_list_order}

inserted : (a : Arena) (others : List Arena) → IsPermutation (a ∷ others) (insert_by_place a others)
unfolding insert_by_place
inserted a [] = IsPermutation-refl (a ∷ [])
inserted a (b ∷ others) =
    elim (nat_lt b.list a.list) as (λ lower. IsPermutation (a ∷ b ∷ others) (if lower then b ∷ insert_by_place a others else a ∷ b ∷ others)) [
      | true ↦
          IsPermutation-trans (a ∷ b ∷ others) (b ∷ a ∷ others) (b ∷ insert_by_place a others)
          (IsPermutation-middle (a ∷ []) b others)
          (IsPermutation-cons b (a ∷ others) (insert_by_place a others) (inserted a others))
      | false ↦ IsPermutation-refl (a ∷ b ∷ others)
    ]

pub none_left_out : (arenas : List Arena) → IsPermutation arenas (in_list_order arenas)
unfolding in_list_order
none_left_out [] = IsPermutation-refl []
none_left_out (a ∷ arenas) =
    let rest : List Arena = in_list_order arenas in
    IsPermutation-trans (a ∷ arenas) (a ∷ rest) (insert_by_place a rest) (IsPermutation-cons a arenas rest (none_left_out arenas)) (inserted a rest)

-- whether an arena is at one of the first places, so many of them; whether it is at a place
abbrev pub is_before : ℕ → Arena → Bool
is_before place a = nat_lt a.list place

abbrev is_at : ℕ → Arena → Bool
is_at place a = a.list == place

-- an arena goes in front of all that stand at one place, its own or a higher one
insert_by_place-append : (a : Arena) (place : ℕ) (xs ys : List Arena) → a.list ≤ place → All (λ b. is_at place b ≡ true) ys → insert_by_place a (xs ++ ys) ≡ insert_by_place a xs ++ ys
unfolding insert_by_place
insert_by_place-append a place [] [] le at = refl
insert_by_place-append a place [] (y ∷ ys) le at = let here = All-head (λ b. is_at place b ≡ true) y ys at in grind (arith, nat_tests)
insert_by_place-append a place (x ∷ xs) ys le at = let rest = insert_by_place-append a place xs ys le at in grind (arith, nat_tests)

-- and behind all that stand at lower places
insert_by_place-last : (a : Arena) (place : ℕ) (xs : List Arena) → place ≤ a.list → All (λ b. is_before place b ≡ true) xs → insert_by_place a xs ≡ xs ++ a ∷ []
unfolding insert_by_place
insert_by_place-last a place [] le before = refl
insert_by_place-last a place (x ∷ xs) le before =
    let here = All-head (λ b. is_before place b ≡ true) x xs before in
    let rest = insert_by_place-last a place xs le (All-tail (λ b. is_before place b ≡ true) x xs before) in
    grind (arith, nat_tests)

-- the arenas at the first places, so many of them, in list order
unfoldable pub at_first_places : ℕ → List Arena → List Arena
at_first_places places arenas = in_list_order (filter (is_before places) arenas)

pub no_place : (arenas : List Arena) → at_first_places 0 arenas ≡ []
unfolding at_first_places in_list_order
no_place [] = refl
no_place (a ∷ arenas) = let rest = no_place arenas in grind (arith, nat_tests)

pub next_place : (arenas : List Arena) (place : ℕ) → at_first_places (place + 1) arenas ≡ at_first_places place arenas ++ filter (is_at place) arenas
unfolding at_first_places in_list_order
next_place [] place = refl
next_place (a ∷ arenas) place =
    let first : List Arena = filter (is_before place) arenas in
    let before = All-permutation (λ b. is_before place b ≡ true) first (in_list_order first) (none_left_out first) (filter_passes (is_before place) arenas) in
    let at = filter_passes (is_at place) arenas in
    let rest = next_place arenas place in
    grind (
      arith,
      nat_tests,
      append_assoc,
      λ (le : a.list ≤ place). insert_by_place-append a place (in_list_order first) (filter (is_at place) arenas) le at,
      λ (le : place ≤ a.list). insert_by_place-last a place (in_list_order first) le before,
    )

pub all_places : (arenas : List Arena) (places : ℕ) → All (λ a. a.list < places) arenas → at_first_places places arenas ≡ in_list_order arenas
unfolding at_first_places in_list_order
all_places [] places all = refl
all_places (a ∷ arenas) places all =
    let here = All-head (λ b. b.list < places) a arenas all in
    let rest = all_places arenas places (All-tail (λ b. b.list < places) a arenas all) in
    grind (arith, nat_tests)
