-- Texts that are cut at each separator.
use Rattle.std.proofs.Common.{◌≡◌, ℕ, ◌+◌, ◌≤◌, Bool, true, false, not, cond, List, [], ◌∷◌, ◌==◌, length, take, drop, Some, None, refl, sym, ap, ◌<◌, ◌∙◌, arith, inl, inr}
use Rattle.std.specs.List.{position, position_or_len, slice_split, list_all, join_with_byte, All, AllByRecursion}
use Rattle.std.proofs.lemmas.Bool.{cases_Bool, ltb-true, ltb-false, not-true, eq-eqb}
use Rattle.std.proofs.lemmas.Option.{cond_some}
use Rattle.std.proofs.lemmas.List.{take_all, take_rest}
use Rattle.std.proofs.lemmas.List.Sums.{AllPass-from_list_all}
use Rattle.std.proofs.lemmas.List.Splits.{slice_split_first, slice_split_none, slice_split_at, length-slice_split}
use Rattle.trace_text.specs.Grammar.{fields_of}
use Rattle.trace_text.specs.Numbers.{numeral_value, TakesNumber}

found_nowhere : (b : Bool) (n : ℕ) → None ≡ cond b (Some n) None → b ≡ false
found_nowhere true n e = absurd cc
found_nowhere false n e = refl

-- the first separator ends the first part
pub split_at_first : {X : Type 0} (p : X → Bool) (xs : List X) (d : X) (i : ℕ) → Some i ≡ position p xs → slice_split p xs ≡ take i xs ∷ slice_split p (drop (i + 1) xs)
split_at_first p xs d i e =
    let found = cond_some _ _ _ (sym e) in
    rw (← found.1) (slice_split_first p xs d (ltb-true _ _ found.0))

split_past : {X : Type 0} (p : X → Bool) (xs : List X) → length xs ≤ position_or_len p xs → slice_split p xs ≡ xs ∷ []
split_past p [] past = refl
split_past p (x ∷ xs) past =
    elim (cases_Bool (p x)) [
      | inl sep ↦ absurd (omega (arith, rw sep at past))
      | inr other ↦ rw (other, split_past p xs (omega (arith, rw other at past))) refl
    ]

-- where there is no separator, there is one part
pub split_nowhere : {X : Type 0} (p : X → Bool) (xs : List X) → None ≡ position p xs → slice_split p xs ≡ xs ∷ []
split_nowhere p xs e = split_past p xs (ltb-false _ _ (found_nowhere _ _ e))

-- a line has a field
pub has_field : (text : List ℕ) → fields_of text ≡ [] → ⊥
has_field text none = absurd (omega (arith, length-slice_split (λ b. b == 32) text, ap length none))

uncons : {X : Type 0} (xs : List X) → 0 < length xs → (first : X) × (others : List X) × (xs ≡ first ∷ others)
uncons [] some = absurd (omega arith)
uncons (x ∷ xs) some = (x, xs, refl)

-- a text has a first part
pub split_cons : {X : Type 0} (p : X → Bool) (xs : List X) → (first : List X) × (others : List (List X)) × (slice_split p xs ≡ first ∷ others)
split_cons p xs = uncons (slice_split p xs) (omega (arith, length-slice_split p xs))

-- ---- a number in front of a line's fields

pub number_cut : (text : List ℕ) (count number : ℕ) → position_or_len (λ b. b == 32) text ≡ count → numeral_value (take count text) ≡ Some number → count < length text → TakesNumber (fields_of text) (fields_of (drop (count + 1) text)) (Some number)
number_cut text count number end value more =
    record { field = take count text; first = rw end at (slice_split_first (λ b. b == 32) text 0 (omega (arith, end))); value = sym value }

pub number_alone : (text : List ℕ) (count number : ℕ) → position_or_len (λ b. b == 32) text ≡ count → numeral_value (take count text) ≡ Some number → length text ≤ count → TakesNumber (fields_of text) [] (Some number)
number_alone text count number end value last =
    record { field = text; first = split_past (λ b. b == 32) text (omega (arith, end)); value = sym (rw (take_all count text last) at value) }

-- what tells what is left behind a number
pub ruleset number_cases = (number_cut, number_alone, take_rest)

-- ---- parts that are joined, and cut again

-- a part without the separator
abbrev pub Lacks : ℕ → List ℕ → Type 0
Lacks c part = list_all (λ b. not (b == c)) part ≡ true

lacks_all : (c : ℕ) (part : List ℕ) → Lacks c part → All (λ b. (b == c) ≡ false) part
lacks_all c part lacks = λ k d lt. not-true _ (AllPass-from_list_all (λ b. not (b == c)) part lacks k d lt)

pub split_join : (c : ℕ) (part : List ℕ) (parts : List (List ℕ)) → AllByRecursion (Lacks c) (part ∷ parts) → slice_split (λ b. b == c) (join_with_byte c (part ∷ parts)) ≡ part ∷ parts
split_join c part [] lacks = slice_split_none (λ b. b == c) part (lacks_all c part lacks.0)
split_join c part (next ∷ parts) lacks =
    slice_split_at (λ b. b == c) part c (join_with_byte c (next ∷ parts)) (lacks_all c part lacks.0) (eq-eqb c c refl)
    ∙ ap (λ (rest : List (List ℕ)). part ∷ rest) (split_join c next parts lacks.1)
