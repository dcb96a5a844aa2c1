-- When a field is a number.
use Rattle.std.proofs.Common.{◌≡◌, ℕ, ◌+◌, ◌-◌, ◌*◌, ◌^◌, ◌<◌, ◌≤◌, true, false, leb, ltb, ◌==◌, List, [], ◌∷◌, length, get_or, take, drop, Some, None, refl, sym, ap, ◌∙◌, arith, inl, inr}
use Rattle.std.specs.List.{fold, list_all, position_or_len}
use Rattle.std.specs.Fmt.{decimal}
use Rattle.std.specs.Char.{is_ascii_digit}
use Rattle.std.proofs.lemmas.Bool.{and_cases, and_parts, and_right, and_from, le-ltb, lt-ltb, leb-true, ne_eqb, eq-eqb}
use Rattle.std.proofs.lemmas.Fmt.{length-decimal-le}
use Rattle.std.proofs.lemmas.List.{take-append-drop, take_all, length-take-le, get_or-take}
use Rattle.std.proofs.lemmas.List.Sums.{fold-append, fold_more, AllPass-from_list_all, position_or_len_is}
use Rattle.std.proofs.lemmas.List.Folds.{list_all_at}
use Rattle.trace_text.specs.Numbers.{is_numeral, value_of, numeral_value}

-- a digit's byte is from 48 to 57
pub digit_bounds : (d : ℕ) → is_ascii_digit d ≡ true → (48 ≤ d) × (d ≤ 57)
digit_bounds d e = (leb-true 48 d (and_parts (leb 48 d) (leb d 57) e).0, leb-true d 57 (and_parts (leb 48 d) (leb d 57) e).1)

abbrev step : ℕ → ℕ → ℕ
step value digit = value * 10 + (digit - 48)

fold_grows : (value : ℕ) (digits : List ℕ) → value ≤ fold step value digits
fold_grows value [] = omega arith
fold_grows value (d ∷ ds) = omega (arith, fold_grows (step value d) ds)

-- the front of the digits stands for no more
pub value_of-take : (i : ℕ) (digits : List ℕ) → value_of (take i digits) ≤ value_of digits
value_of-take i digits =
    rw (sym (ap value_of (take-append-drop i digits)), fold-append step 0 (take i digits) (drop i digits))
    (fold_grows (value_of (take i digits)) (drop i digits))

pub value_of_more : (i : ℕ) (digits : List ℕ) → i < length digits → value_of (take (i + 1) digits) ≡ value_of (take i digits) * 10 + (get_or digits i 0 - 48)
value_of_more i digits h = fold_more step 0 digits i 0 h

unlike_numeral : (field : List ℕ) → list_all is_ascii_digit field ≡ false → is_numeral field ≡ false
unlike_numeral [] e = absurd cc
unlike_numeral (d ∷ []) e = elim (and_cases (is_ascii_digit d) true e) [ inl h ↦ h | inr h ↦ absurd cc ]
unlike_numeral (d ∷ n ∷ ds) e = and_right _ _ e

pub none_by_digit : (field : List ℕ) → list_all is_ascii_digit field ≡ false → numeral_value field ≡ None
unfolding numeral_value
none_by_digit field e = rw (unlike_numeral field e) refl

pub none_by_size : (field : List ℕ) → 2 ^ 64 ≤ value_of field → numeral_value field ≡ None
unfolding numeral_value
none_by_size field h = rw (le-ltb (value_of field) (2 ^ 64) h, and_right (is_numeral field) false refl) refl

pub none_by_length : (field : List ℕ) → length field ≡ 0 → numeral_value field ≡ None
unfolding numeral_value
none_by_length [] e = refl
none_by_length (d ∷ ds) e = absurd (omega arith)

pub none_by_zero : (field : List ℕ) → 1 < length field → get_or field 0 0 ≡ 48 → numeral_value field ≡ None
unfolding numeral_value
none_by_zero [] more e = absurd (omega arith)
none_by_zero (d ∷ []) more e = absurd (omega arith)
none_by_zero (d ∷ n ∷ ds) more e = rw e refl

like_numeral : (field : List ℕ) → 0 < length field → (1 < length field → get_or field 0 0 ≡ 48 → ⊥) → list_all is_ascii_digit field ≡ true → is_numeral field ≡ true
like_numeral [] some free e = absurd (omega arith)
like_numeral (d ∷ []) some free e = (and_parts (is_ascii_digit d) true e).0
like_numeral (d ∷ n ∷ ds) some free e =
    let first = digit_bounds d (and_parts (is_ascii_digit d) (list_all is_ascii_digit (n ∷ ds)) e).0 in
    let ne : d ≡ 48 → ⊥ = free (omega arith) in
    and_from (ltb 48 d) _ (lt-ltb 48 d (omega (arith, first, ne))) e

pub some_by_digits : (field : List ℕ) → 0 < length field → (1 < length field → get_or field 0 0 ≡ 48 → ⊥) → list_all is_ascii_digit field ≡ true → value_of field < 2 ^ 64 → numeral_value field ≡ Some (value_of field)
unfolding numeral_value
some_by_digits field some free e h = rw (like_numeral field some free e, lt-ltb (value_of field) (2 ^ 64) h) refl

-- where the digits up to one stand for too much, so do all
pub none_past : (field : List ℕ) (i : ℕ) → i < length field → 2 ^ 64 ≤ value_of (take i field) * 10 + (get_or field i 0 - 48) → numeral_value field ≡ None
none_past field i h past =
    none_by_size field (omega (arith, value_of_more i field h, value_of-take (i + 1) field))

-- the same at the end
pub some_whole : (field : List ℕ) (i : ℕ) → length field ≤ i → 0 < length field → (1 < length field → get_or field 0 0 ≡ 48 → ⊥) → list_all is_ascii_digit (take i field) ≡ true → value_of (take i field) < 2 ^ 64 → numeral_value field ≡ Some (value_of (take i field))
some_whole field i end some free digits small =
    let whole : take i field ≡ field = take_all i field end in
    rw whole (some_by_digits field some free (rw whole at digits) (rw whole at small))

-- the digits in front of a text stand for a number
pub front_value : (text : List ℕ) (count : ℕ) → count ≤ length text → 0 < count → (1 < count → get_or text 0 0 ≡ 48 → ⊥) → list_all is_ascii_digit (take count text) ≡ true → value_of (take count text) < 2 ^ 64 → numeral_value (take count text) ≡ Some (value_of (take count text))
front_value text count within some free digits small =
    let long = length-take-le count text within in
    some_by_digits (take count text) (omega (arith, long)) (λ more zero. free (omega (arith, long, more)) (sym (get_or-take count text 0 0 some) ∙ zero)) digits small

-- no digit is a space
pub front_end : (text : List ℕ) (count : ℕ) → count ≤ length text → list_all is_ascii_digit (take count text) ≡ true → (count < length text → get_or text count 0 ≡ 32) → position_or_len (λ b. b == 32) text ≡ count
front_end text count within digits space =
    let long = length-take-le count text within in
    position_or_len_is (λ b. b == 32) text count 0 within
    (λ k lt. let digit = rw get_or-take at (AllPass-from_list_all is_ascii_digit (take count text) digits k 0 (omega (arith, long, lt))) in let bounds = digit_bounds (get_or text k 0) digit in ne_eqb (get_or text k 0) 32 (λ is. absurd (omega (arith, bounds, is))))
    (λ lt. eq-eqb (get_or text count 0) 32 (space lt))

-- what tells a field's number
pub ruleset number_cases = (none_by_length, none_by_zero, none_by_digit, list_all_at)

-- a number has at most twenty digits
pub length-decimal : (n : ℕ) → n < 2 ^ 64 → length (decimal n) ≤ 20
length-decimal n h = length-decimal-le 20 n (omega arith) (omega arith) h

pub ruleset decimal_lengths = (length-decimal)
