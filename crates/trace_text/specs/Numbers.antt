-- Numbers as traces have them: decimal, without leading zeros, below 2^64 (this project's own).
use Rattle.std.specs.Prelude.{◌≡◌, ℕ, ◌+◌, ◌-◌, ◌*◌, ◌^◌, Bool, false, ◌&&◌, List, [], ◌∷◌, Option, Some, None, fold, nat_lt, if◌then◌else◌}
use Rattle.std.specs.List.{list_all}
use Rattle.std.specs.Char.{is_ascii_digit}

-- digits alone, at least one, and no 0 in front of others
abbrev pub is_numeral : List ℕ → Bool
is_numeral [] = false
is_numeral (digit ∷ []) = is_ascii_digit digit
is_numeral (digit ∷ next ∷ more) = nat_lt 48 digit && list_all is_ascii_digit (digit ∷ next ∷ more)

-- the number that decimal digits stand for
abbrev pub value_of : List ℕ → ℕ
value_of digits = fold (λ value digit. value * 10 + (digit - 48)) 0 digits

-- the number that a field stands for
unfoldable pub numeral_value : List ℕ → Option ℕ
numeral_value field = if is_numeral field && nat_lt (value_of field) (2 ^ 64) then Some (value_of field) else None

-- a field is taken from those that are left, and the number that it stands for is told; no public clause cites this
pub record TakesNumber (old new : List (List ℕ)) (number : Option ℕ) : Type 0 where
  pub field : List ℕ
  pub first : old ≡ field ∷ new
  pub value : number ≡ numeral_value field
