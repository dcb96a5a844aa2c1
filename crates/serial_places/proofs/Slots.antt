-- Slots by number, of which one changes. Other crates may cite this file.
use Rattle.std.proofs.Common.{◌≡◌, ℕ, zero, suc, ◌<◌, List, [], ◌∷◌, length, map, Option, Some, None, inl, inr, IsTrue, refl, ap, ◌∙◌, arith}
use Rattle.std.specs.Prelude.{is_some, option_map}
use Rattle.std.proofs.lemmas.Bool.{cases_eq}
use Rattle.std.proofs.lemmas.List.{get_or-set_same, get_or-set_other}
use Rattle.serial_places.specs.SerialWays.{slot_in, put_in}

-- one that is there has its place
pub slot_within : {S : Type 0} (slots : List (Option S)) (n : ℕ) → IsTrue (is_some (slot_in slots n)) → n < length slots
slot_within [] n h = absurd cc
slot_within (o ∷ os) zero h = omega arith
slot_within (o ∷ os) (suc n) h = omega (arith, slot_within os n h)

pub some_within : {S : Type 0} (slots : List (Option S)) (n : ℕ) (s : S) → slot_in slots n ≡ Some s → n < length slots
some_within slots n s e = slot_within slots n (ap is_some e)

-- what is seen of each slot
pub slot-map : {S T : Type 0} (f : S → T) (slots : List (Option S)) (n : ℕ) → slot_in (map (option_map f) slots) n ≡ option_map f (slot_in slots n)
slot-map f [] n = refl
slot-map f (o ∷ os) zero = refl
slot-map f (o ∷ os) (suc n) = slot-map f os n

some-map : {S T : Type 0} (f : S → T) (o : Option S) → is_some (option_map f o) ≡ is_some o
some-map f None = refl
some-map f (Some s) = refl

pub there-map : {S T : Type 0} (f : S → T) (slots : List (Option S)) (n : ℕ) → is_some (slot_in (map (option_map f) slots) n) ≡ is_some (slot_in slots n)
there-map f slots n = ap is_some (slot-map f slots n) ∙ some-map f (slot_in slots n)

-- one was put in: it is there, and the others are still
pub put_here : {S : Type 0} (slots : List (Option S)) (n : ℕ) (s : S) → n < length slots → slot_in (put_in slots n s) n ≡ Some s
put_here slots n s within = get_or-set_same slots n (Some s) None within

pub put_other : {S : Type 0} (slots : List (Option S)) (n k : ℕ) (s : S) → (k ≡ n → ⊥) → slot_in (put_in slots n s) k ≡ slot_in slots k
put_other slots n k s other = get_or-set_other slots n k (Some s) None other

pub put_there : {S : Type 0} (slots : List (Option S)) (n k : ℕ) (s : S) → n < length slots → IsTrue (is_some (slot_in slots k)) → IsTrue (is_some (slot_in (put_in slots n s) k))
put_there slots n k s within h = elim (cases_eq k n) [
  | inl same ↦ ap (λ m. is_some (slot_in (put_in slots n s) m)) same ∙ ap is_some (put_here slots n s within)
  | inr other ↦ ap is_some (put_other slots n k s other) ∙ h
]
