-- The first word from an address on.
use Rattle.std.proofs.Common.{◌≡◌, ℕ, ◌+◌, ◌-◌, ◌*◌, ◌/◌, ◌%◌, ◌^◌, ◌<◌, ◌≤◌, List, [], length, get_or, map, sym, ap, ◌∙◌, subst, Option, Some, None, inl, inr, arith}
use Rattle.std.specs.Int.{div_ceil}
use Rattle.std.specs.Prelude.{IfSome, IfNone, MatchOption}
use Rattle.std.proofs.Math.Nat.{mod-eq_of_lt, mul-add-mod_self_right, mul-le-mul_right}
use Rattle.std.proofs.lemmas.Bool.{cases_lt}
use Rattle.std.proofs.lemmas.List.{get_or-map, get_or_default}
use Rattle.std.proofs.lemmas.Nat.{div-add-mod', div-mul-add, mod_below}
use Rattle.part_words.specs.Extents.{Extent, index_of, IsOpen}
use Rattle.part_words.proofs.Opening.{within}

-- no word was passed from an address up to a place of a part
pub record Passed (e : Extent) (at part place : ℕ) : Type 0 where
  pub within : place < e.width
  pub from : at ≤ e.base + 16 * (part * e.width + place)
  pub first : (b : ℕ) → at ≤ b → b < e.base + 16 * (part * e.width + place) → IsOpen e b → ⊥

-- the number of a word is made of its part and its place
numbered : (w q r : ℕ) → r < w → ((q * w + r) / w ≡ q) × ((q * w + r) % w ≡ r)
numbered w q r h = (div-mul-add q w r h, mul-add-mod_self_right q w r ∙ mod-eq_of_lt h)

pub passed_none : (e : Extent) (at n : ℕ) → 0 < e.width → at - e.base ≤ 16 * n → 16 * n < at - e.base + 16 → Passed e at (n / e.width) (n % e.width)
passed_none e at n some enough near =
    let number : n / e.width * e.width + n % e.width ≡ n = div-add-mod' n e.width in
    record {
      within = mod_below n e.width some;
      from = omega (arith, number, enough);
      first = λ b from below at_b. absurd (omega (arith, number, near, from, below, at_b.place));
    }

pub open_here : (e : Extent) (at part place : ℕ) → Passed e at part place → place < get_or e.words part 0 → IsOpen e (e.base + 16 * (part * e.width + place))
open_here e at part place p below =
    let i : index_of e.base (e.base + 16 * (part * e.width + place)) ≡ part * e.width + place = omega arith in
    let n = numbered e.width part place p.within in
    record { place = omega (arith, i); below = rw (i, n.0, n.1) below }

-- the rest of a part has no word
none_left : (e : Extent) (part place i : ℕ) → get_or e.words part 0 ≤ place → part * e.width + place ≤ i → i < part * e.width + e.width → i % e.width < get_or e.words (i / e.width) 0 → ⊥
none_left e part place i short from below open_i =
    let r = i - part * e.width in
    let n = numbered e.width part r (omega (arith, below, from)) in
    let same : part * e.width + r ≡ i = omega (arith, from) in
    let part_is : i / e.width ≡ part = ap (λ m. m / e.width) (sym same) ∙ n.0 in
    let place_is : i % e.width ≡ r = ap (λ m. m % e.width) (sym same) ∙ n.1 in
    let there : i % e.width < get_or e.words part 0 = subst (λ q. i % e.width < get_or e.words q 0) part_is open_i in
    omega (arith, short, from, place_is, there)

pub passed_part : (e : Extent) (at part place : ℕ) → Passed e at part place → get_or e.words part 0 ≤ place → Passed e at (part + 1) 0
passed_part e at part place p short =
    let next : (part + 1) * e.width + 0 ≡ part * e.width + e.width = omega arith in
    record {
      within = omega (arith, p.within);
      from = omega (arith, p.from, p.within, next);
      first = λ b from below at_b. elim (cases_lt b (e.base + 16 * (part * e.width + place))) [
        | inl before ↦ p.first b from before at_b
        | inr past ↦ none_left e part place (index_of e.base b) short (omega (arith, past, at_b.place)) (omega (arith, below, next, at_b.place)) at_b.below
      ];
    }

pub passed_all : (e : Extent) (at part place : ℕ) → Passed e at part place → length e.words ≤ part → (b : ℕ) → at ≤ b → IsOpen e b → ⊥
passed_all e at part place p past b from at_b =
    let i = index_of e.base b in
    let q = i / e.width in
    let lt : q + 1 ≤ part = omega (arith, past, within e.words q (i % e.width) at_b.below) in
    let le : (q + 1) * e.width ≤ part * e.width = mul-le-mul_right e.width lt in
    let split : q * e.width + i % e.width ≡ i = div-add-mod' i e.width in
    let less : i % e.width < e.width = mod_below i e.width (omega (arith, p.within)) in
    p.first b from (omega (arith, le, split, less, at_b.place)) at_b

-- the address that is found, where it is below 2^64
pub record IsNext (e : Extent) (at : ℕ) (r : Option ℕ) : Type 0 where
  pub word : IfSome r (λ a. IsOpen e a × (at ≤ a))
  pub first : IfSome r (λ a. (b : ℕ) → at ≤ b → b < a → IsOpen e b → ⊥)
  pub none : IfNone r ((b : ℕ) → at ≤ b → b < 2 ^ 64 → IsOpen e b → ⊥)

pub is_next : (e : Extent) (at part place : ℕ) (r : Option ℕ) → Passed e at part place → place < get_or e.words part 0 → MatchOption r (2 ^ 64 ≤ e.base + 16 * (part * e.width + place)) (λ a. a ≡ e.base + 16 * (part * e.width + place)) → IsNext e at r
is_next e at part place None p below is =
    record { word = tt; first = tt; none = λ b from lt at_b. p.first b from (omega (arith, is, lt)) at_b }
is_next e at part place (Some a) p below is =
    record {
      word = rw is (open_here e at part place p below, p.from);
      first = rw is p.first;
      none = tt;
    }

-- how many words a part has
pub length_read : {T : Type 0} (vs : List (List T)) (q : ℕ) (v : List T) → v ≡ get_or vs q v → q < length vs → get_or (map length vs) q 0 ≡ length v
length_read vs q v read below =
    get_or-map length vs q [] 0 below ∙ ap length (sym (read ∙ get_or_default vs q v [] below))

-- the number of the first word that begins at a distance or later
pub rounded_up : (x n : ℕ) → n ≡ div_ceil x 16 → (x ≤ 16 * n) × (16 * n < x + 16)
rounded_up x n e = (omega (arith, e), omega (arith, e))
