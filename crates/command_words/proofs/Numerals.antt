-- std's reading of numbers, held to that of traces.
use Rattle.std.proofs.Common.{◌≡◌, ◌≢◌, ℕ, ◌<◌, ◌≤◌, ◌^◌, ◌==◌, ◌&&◌, Bool, true, false, leb, ltb, List, [], ◌∷◌, length, get_or, Some, None, Result, Ok, Err, refl, sym, ap, ◌∙◌, ◌*◌, ◌+◌, ◌-◌, cond, arith, rules}
use Rattle.std.specs.Prelude.{not}
use Rattle.std.specs.List.{fold, list_all}
use Rattle.std.specs.Char.{is_ascii_digit}
use Rattle.std.specs.Result.{OkIff, result_ok}
use Rattle.std.specs.Str.Parse.{ParsesUnsigned}
use Rattle.std.proofs.lemmas.Bool.{and_parts, and_right, leb-true, ltb-true, lt-ltb}
use Rattle.std.proofs.lemmas.Bool.Decides.{nat_tests}
use Rattle.std.proofs.lemmas.Str.Parse.{IsNumeralModel, numerals_by_fold, parse_plain}
use Rattle.trace_text.specs.Numbers.{is_numeral, value_of, numeral_value}
use Rattle.command_words.specs.Views.{has_plain_front}

abbrev AreDigits : List ℕ → Type 0
AreDigits ds = list_all is_ascii_digit ds ≡ true

own : IsNumeralModel AreDigits value_of
own = numerals_by_fold AreDigits (search rules) (λ n ds. fold (λ value digit. value * 10 + (digit - 48)) n ds) (search rules)

-- a text with another front is no number
pub other_front : (text : List ℕ) → has_plain_front text ≡ false → numeral_value text ≡ None
unfolding numeral_value
other_front [] h = refl
other_front (d ∷ []) h = go (d == 43) refl
  where
    go : (t : Bool) → (d == 43) ≡ t → cond (is_numeral (d ∷ []) && ltb (value_of (d ∷ [])) (2 ^ 64)) (Some (value_of (d ∷ []))) None ≡ None
    go true e = let is : d ≡ 43 = grind (arith, nat_tests) in rw is refl
    go false e = let no : not false ≡ false = rw e at h in cc
other_front (d ∷ n ∷ ds) h = go (d == 43) (d == 48) refl refl
  where
    none : d ≤ 48 → cond (is_numeral (d ∷ n ∷ ds) && ltb (value_of (d ∷ n ∷ ds)) (2 ^ 64)) (Some (value_of (d ∷ n ∷ ds))) None ≡ None
    none low = let no : ltb 48 d ≡ false = grind (arith, nat_tests) in rw no refl

    go : (t u : Bool) → (d == 43) ≡ t → (d == 48) ≡ u → cond (is_numeral (d ∷ n ∷ ds) && ltb (value_of (d ∷ n ∷ ds)) (2 ^ 64)) (Some (value_of (d ∷ n ∷ ds))) None ≡ None
    go true u e f = let is : d ≡ 43 = grind (arith, nat_tests) in none (omega (arith, is))
    go false true e f = let is : d ≡ 48 = grind (arith, nat_tests) in none (omega (arith, is))
    go false false e f = let no : not false && not false ≡ false = rw (e, f) at h in cc

front_byte : (text : List ℕ) → has_plain_front text ≡ true → get_or text 0 0 ≢ 43
front_byte [] h is = absurd cc
front_byte (d ∷ []) h is = let no : not (43 == 43) ≡ true = rw is at h in absurd cc
front_byte (d ∷ n ∷ ds) h is = let no : not (43 == 43) && not (43 == 48) ≡ true = rw is at h in absurd cc

first_digit : (d : ℕ) (rest : Bool) → not (d == 48) ≡ true → (ltb 48 d && (is_ascii_digit d && rest)) ≡ (is_ascii_digit d && rest)
first_digit d rest h = go (is_ascii_digit d) refl
  where
    go : (t : Bool) → is_ascii_digit d ≡ t → (ltb 48 d && (is_ascii_digit d && rest)) ≡ (is_ascii_digit d && rest)
    go false e = rw e (and_right (ltb 48 d) false refl)
    go true e =
        let low : 48 ≤ d = leb-true 48 d (and_parts (leb 48 d) (leb d 57) e).0 in
        let more : ltb 48 d ≡ true = grind (arith, nat_tests) in
        rw more refl

plain_numeral : (text : List ℕ) → has_plain_front text ≡ true → is_numeral text ≡ list_all is_ascii_digit text
plain_numeral [] h = absurd cc
plain_numeral (d ∷ []) h = sym (and_true (is_ascii_digit d))
  where
    and_true : (b : Bool) → (b && true) ≡ b
    and_true true = refl
    and_true false = refl
plain_numeral (d ∷ n ∷ ds) h = first_digit d (list_all is_ascii_digit (n ∷ ds)) (and_parts (not (d == 43)) (not (d == 48)) h).1

some_length : (text : List ℕ) → has_plain_front text ≡ true → 0 < length text
some_length [] h = absurd cc
some_length (d ∷ ds) h = omega arith

-- a text with a plain front is the number that std reads
pub plain_number : {E : Type 0} (text : List ℕ) (r : Result ℕ E) → has_plain_front text ≡ true → ParsesUnsigned 64 10 text r → result_ok r ≡ numeral_value text
unfolding numeral_value
plain_number {E} text r h parses = go r (parse_plain own 64 text r parses (front_byte text h))
  where
    go : (r : Result ℕ E) → OkIff r (AreDigits text × (0 < length text) × (value_of text < 2 ^ 64)) (value_of text) → result_ok r ≡ cond (is_numeral text && ltb (value_of text) (2 ^ 64)) (Some (value_of text)) None
    go (Ok x) facts = rw (plain_numeral text h, facts.0.0, lt-ltb (value_of text) (2 ^ 64) facts.0.2) (ap (λ n. Some n) facts.1)
    go (Err e) none = at_test (is_numeral text && ltb (value_of text) (2 ^ 64)) refl
      where
        at_test : (t : Bool) → (is_numeral text && ltb (value_of text) (2 ^ 64)) ≡ t → None ≡ cond (is_numeral text && ltb (value_of text) (2 ^ 64)) (Some (value_of text)) None
        at_test false e = rw e refl
        at_test true e =
            let tests = and_parts (is_numeral text) (ltb (value_of text) (2 ^ 64)) e in
            absurd (none ((sym (plain_numeral text h) ∙ tests.0), some_length text h, ltb-true (value_of text) (2 ^ 64) tests.1))
