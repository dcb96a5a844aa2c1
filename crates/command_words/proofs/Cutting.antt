-- What follows a first byte.
use Rattle.std.proofs.Common.{◌≡◌, ◌≢◌, ◌==◌, ℕ, Bool, true, false, List, [], ◌∷◌, Option, Some, None, option_map, refl, sym, ap, ◌∙◌, arith}
use Rattle.std.specs.Prelude.{MatchOption}
use Rattle.std.specs.Borrow.{Bor}
use Rattle.std.proofs.lemmas.Bool.Decides.{nat_tests}
use Rattle.command_words.specs.Parts.{strip_byte}

first_stripped : (byte : ℕ) (rest : List ℕ) → strip_byte byte (byte ∷ rest) ≡ Some rest
first_stripped byte rest = go (byte == byte) refl (grind (arith, nat_tests))
  where
    go : (t : Bool) → (byte == byte) ≡ t → t ≡ true → strip_byte byte (byte ∷ rest) ≡ Some rest
    go t e f = rw (e, f)

-- the clause of `strip_prefix` at a byte
pub stripped : (byte : ℕ) (text : List ℕ) (r : Option (Bor (List ℕ))) → MatchOption r ((rest : List ℕ) → text ≢ byte ∷ rest) (λ x. text ≡ byte ∷ x.now) → option_map (λ x. x.now) r ≡ strip_byte byte text
stripped byte [] None h = refl
stripped byte [] (Some x) h = cc
stripped byte (b ∷ bs) None h = go (b == byte) refl
  where
    go : (t : Bool) → (b == byte) ≡ t → None ≡ strip_byte byte (b ∷ bs)
    go true e = absurd (h bs (ap (λ n. n ∷ bs) (grind (arith, nat_tests))))
    go false e = rw e
stripped byte (b ∷ bs) (Some x) h = sym (ap (strip_byte byte) h ∙ first_stripped byte x.now)
