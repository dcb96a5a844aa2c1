-- A number is read from its digits, and a field that is a number has the digits of that number.
use Rattle.std.proofs.Common.{◌≡◌, ℕ, zero, suc, ◌+◌, ◌-◌, ◌*◌, ◌^◌, ◌<◌, true, ltb, ◌&&◌, List, [], ◌∷◌, length, get_or, Some, refl, sym, ap, ◌∙◌, rules, arith}
use Rattle.std.specs.Fmt.{decimal}
use Rattle.std.specs.List.{fold, list_all}
use Rattle.std.specs.Char.{is_ascii_digit}
use Rattle.std.proofs.lemmas.Bool.{and_parts, ltb-true}
use Rattle.std.proofs.lemmas.Option.{cond_some}
use Rattle.std.proofs.lemmas.Str.Parse.{IsNumeralModel, numerals_by_fold}
use Rattle.std.proofs.lemmas.Fmt.{digits_decimal, digits_value-decimal, decimal-digits_value, decimal_digit, decimal_nonempty, first_decimal}
use Rattle.trace_text.specs.Numbers.{is_numeral, value_of, numeral_value}
use Rattle.trace_text.proofs.Digits.{some_by_digits}

abbrev AreDigits : List ℕ → Type 0
AreDigits ds = list_all is_ascii_digit ds ≡ true

own : IsNumeralModel AreDigits value_of
own = numerals_by_fold AreDigits (search rules) (λ n ds. fold (λ value digit. value * 10 + (digit - 48)) n ds) (search rules)

one_zero : (n : ℕ) → n < 2 ^ 64 → 1 < length (decimal n) → get_or (decimal n) 0 0 ≡ 48 → ⊥
one_zero zero h more e = absurd (omega (arith, ap length (decimal_digit 0 (omega arith))))
one_zero (suc n) h more e = absurd (omega (arith, first_decimal (suc n) (omega arith) h))

pub are_digits : (n : ℕ) → n < 2 ^ 64 → AreDigits (decimal n)
are_digits n h = digits_decimal own n h

-- what was written is read
pub number_again : (n : ℕ) → n < 2 ^ 64 → numeral_value (decimal n) ≡ Some n
number_again n h =
    let value : value_of (decimal n) ≡ n = digits_value-decimal own n h in
    rw (some_by_digits (decimal n) (decimal_nonempty n h) (one_zero n h) (are_digits n h) (omega (arith, value)), value) refl

numeral_parts : (field : List ℕ) → is_numeral field ≡ true → AreDigits field × (0 < length field) × (get_or field 0 0 ≡ 48 → length field ≡ 1)
numeral_parts [] e = absurd cc
numeral_parts (d ∷ []) e = (rw e refl, omega arith, λ _. refl)
numeral_parts (d ∷ n ∷ ds) e =
    let parts = and_parts (ltb 48 d) (list_all is_ascii_digit (d ∷ n ∷ ds)) e in
    (parts.1, omega arith, λ zero_first. absurd (omega (arith, ltb-true 48 d parts.0, zero_first)))

-- what is read was written so
pub number_is : (field : List ℕ) (n : ℕ) → numeral_value field ≡ Some n → (field ≡ decimal n) × (n < 2 ^ 64)
unfolding numeral_value
number_is field n e =
    let found = cond_some (is_numeral field && ltb (value_of field) (2 ^ 64)) (value_of field) n e in
    let tests = and_parts (is_numeral field) (ltb (value_of field) (2 ^ 64)) found.0 in
    let small = ltb-true (value_of field) (2 ^ 64) tests.1 in
    let parts = numeral_parts field tests.0 in
    (sym (decimal-digits_value own field parts.0 parts.1 parts.2 small) ∙ ap decimal found.1, omega (arith, small, found.1))
