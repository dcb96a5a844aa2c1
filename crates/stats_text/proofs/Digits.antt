-- The last hexadecimal digits of a number don't depend on what stands above them.
use Rattle.std.proofs.Common.{◌≡◌, ℕ, zero, suc, ◌+◌, ◌-◌, ◌*◌, ◌/◌, ◌%◌, ◌^◌, ◌<◌, ◌≤◌, ◌++◌, ◌∷◌, [], List, length, false, refl, sym, append_assoc, arith}
use Rattle.std.specs.Fmt.{digit_glyph, decimal}
use Rattle.std.proofs.lemmas.Fmt.{length-decimal-le}
use Rattle.std.proofs.Math.Pow.{field, mod-mod-pow}
use Rattle.stats_text.specs.Words.{hex_digits}

-- one digit more, where the code tests that the count is above 0
pub one_more : (k n : ℕ) → 0 < k → hex_digits k n ≡ hex_digits (k - 1) (n / 16) ++ digit_glyph false (n % 16) ∷ []
unfolding hex_digits
one_more zero n h = absurd (omega arith)
one_more (suc k) n h = let e : suc k - 1 ≡ k = omega arith in rw e refl

above : (bits rest n : ℕ) → bits ≡ rest + 4 → n % 2 ^ bits / 16 ≡ n / 16 % 2 ^ rest
above bits rest n b = rw b (field n rest 4)

lowest : (bits rest n : ℕ) → bits ≡ rest + 4 → n % 2 ^ bits % 16 ≡ n % 16
lowest bits rest n b = rw b (mod-mod-pow n rest 4)

pub hex_digits-mod : (k bits n : ℕ) → 4 * k ≤ bits → hex_digits k (n % 2 ^ bits) ≡ hex_digits k n
unfolding hex_digits
hex_digits-mod zero bits n le = refl
hex_digits-mod (suc k) bits n le =
    let b : bits ≡ (bits - 4) + 4 = omega arith in
    rw (above bits (bits - 4) n b, lowest bits (bits - 4) n b, hex_digits-mod k (bits - 4) (n / 16) (omega arith)) refl

pub in_user_bits : (n : ℕ) → hex_digits 12 (n % 2 ^ 64) ≡ hex_digits 12 n
in_user_bits n = hex_digits-mod 12 64 n (omega arith)

-- the digits that are put, and those that are to come
pub all_to_come : (n : ℕ) (text : List ℕ) → hex_digits (12 - 0) n ++ text ≡ hex_digits 12 n ++ text
all_to_come n text = refl

pub next_digit : (done n : ℕ) (text : List ℕ) → done < 12 → hex_digits (12 - (done + 1)) (n / 16) ++ digit_glyph false (n % 16) ∷ text ≡ hex_digits (12 - done) n ++ text
next_digit done n text lt =
    let e : 12 - (done + 1) ≡ 12 - done - 1 = omega arith in
    rw (e, one_more (12 - done) n (omega arith)) (sym (append_assoc (hex_digits (12 - done - 1) (n / 16)) (digit_glyph false (n % 16) ∷ []) text))

pub none_to_come : (done n : ℕ) (text : List ℕ) → 12 ≤ done → hex_digits (12 - done) n ++ text ≡ text
unfolding hex_digits
none_to_come done n text le = let e : 12 - done ≡ 0 = omega arith in rw e refl

-- a number has at most twenty digits
pub length-decimal : (n : ℕ) → n < 2 ^ 64 → length (decimal n) ≤ 20
length-decimal n h = length-decimal-le 20 n (omega arith) (omega arith) h

pub ruleset decimal_lengths = (length-decimal)
