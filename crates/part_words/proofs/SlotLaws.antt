-- What is free, and where the words of a slot stand.
use Rattle.std.proofs.Common.{◌≡◌, ℕ, ◌+◌, ◌*◌, ◌/◌, ◌%◌, ◌<◌, ◌≤◌, inl, inr, List, [], ◌∷◌, ◌++◌, get_or, set, cond, eqb, sym, ap, ◌∙◌, refl, arith}
use Rattle.std.proofs.Math.Nat.{mod-eq_of_lt, mul-add-mod_self_right, mul-le-mul_right, le-div_iff_mul-le}
use Rattle.std.proofs.lemmas.Bool.{cases_lt, cases_eq, lt-ltb, le-ltb, eq-eqb, ne_eqb}
use Rattle.std.proofs.lemmas.List.{length-set, get_or-set_same, get_or-set_other}
use Rattle.std.proofs.lemmas.List.Sums.{sum_by_push}
use Rattle.std.proofs.lemmas.Nat.{div-mul-add}
use Rattle.part_words.specs.Slots.{Slots, word_in, one_if, times, is_below, AreSlots, Sets}

pub times-push : (n m : ℕ) (ns : List ℕ) → times n (ns ++ m ∷ []) ≡ times n ns + one_if (eqb m n)
times-push n m ns = sum_by_push (λ k. cond (eqb k n) 1 0) ns m

pub one_yes : (n : ℕ) → one_if (eqb n n) ≡ 1
one_yes n = rw (eq-eqb n n refl) refl

pub one_no : (m n : ℕ) → (m ≡ n → ⊥) → one_if (eqb m n) ≡ 0
one_no m n other = rw (ne_eqb m n other) refl

pub below_yes : (n count : ℕ) → n < count → is_below n count ≡ 1
below_yes n count lt = rw (lt-ltb n count lt) refl

pub below_no : (n count : ℕ) → count ≤ n → is_below n count ≡ 0
below_no n count past = rw (le-ltb n count past) refl

pub below_some : (n count : ℕ) → 1 ≤ is_below n count → n < count
below_some n count some =
    elim (cases_lt n count) [
      | inl lt ↦ lt
      | inr past ↦ absurd (omega (arith, some, below_no n count past))
    ]

pub below_most : (n count : ℕ) → is_below n count ≤ 1
below_most n count =
    elim (cases_lt n count) [
      | inl lt ↦ omega (arith, below_yes n count lt)
      | inr past ↦ omega (arith, below_no n count past)
    ]

-- with one slot more
pub below_next : (n count : ℕ) → is_below n (count + 1) ≡ is_below n count + one_if (eqb count n)
below_next n count =
    elim (cases_lt n count) [
      | inl lt ↦ omega (arith, below_yes n count lt, below_yes n (count + 1) (omega (arith, lt)), one_no count n (λ e. omega (arith, e, lt)))
      | inr past ↦ elim (cases_eq count n) [
        | inl e ↦ rw (← e) (omega (arith, below_no count count (omega arith), below_yes count (count + 1) (omega arith), one_yes count))
        | inr other ↦ omega (arith, below_no n count past, below_no n (count + 1) (omega (arith, past, other)), one_no count n other)
      ]
    ]

-- the place of a word
place_below : (width count slot x : ℕ) → slot < count → x < width → slot * width + x < count * width
place_below width count slot x there below =
    let le : (slot + 1) * width ≤ count * width = mul-le-mul_right width (omega (arith, there)) in
    omega (arith, le, below)

-- no two words have the same
places_apart : (width n x slot offset : ℕ) → x < width → offset < width → (n ≡ slot → x ≡ offset → ⊥) → n * width + x ≡ slot * width + offset → ⊥
places_apart width n x slot offset below within other same =
    other
    (sym (div-mul-add n width x below) ∙ (ap (λ p. p / width) same ∙ div-mul-add slot width offset within))
    (sym (mul-add-mod_self_right n width x ∙ mod-eq_of_lt below) ∙ (ap (λ p. p % width) same ∙ (mul-add-mod_self_right slot width offset ∙ mod-eq_of_lt within)))

-- a word is written
pub slots_set : {T : Type 0} (none : T) (width : ℕ) (words : List T) (count : ℕ) (free : List ℕ) (slot offset : ℕ) (word : T) → AreSlots none width words count free → slot < count → offset < width → times slot free ≡ 0 → AreSlots none width (set words (slot * width + offset) word) count free
slots_set none width words count free slot offset word h there within taken =
    record {
      long = length-set words (slot * width + offset) word ∙ h.long;
      once = h.once;
      clear = λ n x is_free below. get_or-set_other words (slot * width + offset) (n * width + x) word none (places_apart width n x slot offset below within (λ e f. omega (arith, ap (λ m. times m free) e, is_free, taken))) ∙ h.clear n x is_free below;
    }

pub sets : {T : Type 0} (none : T) (width : ℕ) (old new : Slots T) (slot offset : ℕ) (word : T) → AreSlots none width old.words old.count old.free → slot < old.count → offset < width → new.words ≡ set old.words (slot * width + offset) word → new.count ≡ old.count → new.free ≡ old.free → new.room ≡ old.room → Sets none width old slot offset word new
sets none width old new slot offset word h there within words count free room =
    record {
      here = ap (λ l. get_or l (slot * width + offset) none) words ∙ get_or-set_same old.words (slot * width + offset) word none (omega (arith, h.long, place_below width old.count slot offset there within));
      others = λ n x below other. ap (λ l. get_or l (n * width + x) none) words ∙ get_or-set_other old.words (slot * width + offset) (n * width + x) word none (places_apart width n x slot offset below within other);
      count = count;
      free = free;
      room = room;
    }

-- a slot becomes free
pub slots_given : {T : Type 0} (none : T) (width : ℕ) (words : List T) (count : ℕ) (free more : List ℕ) (slot : ℕ) → AreSlots none width words count free → slot < count → times slot free ≡ 0 → ((x : ℕ) → x < width → word_in none width words slot x ≡ none) → more ≡ free ++ slot ∷ [] → AreSlots none width words count more
slots_given none width words count free more slot h there taken clear e =
    record {
      long = h.long;
      once = λ n. rw e (elim (cases_eq slot n) [
        | inl same ↦ rw (← same) (omega (arith, taken, times-push slot slot free, one_yes slot, below_yes slot count there))
        | inr other ↦ omega (arith, h.once n, times-push n slot free, one_no slot n other)
      ]);
      clear = λ n x is_free within. elim (cases_eq slot n) [
        | inl same ↦ rw (← same) (clear x within)
        | inr other ↦ h.clear n x (omega (arith, is_free, ap (times n) e, times-push n slot free, one_no slot n other)) within
      ];
    }

-- room for so many words is room for so many slots
pub slots_fit : (width count capacity : ℕ) → 0 < width → count * width ≤ capacity → count ≤ capacity / width
slots_fit width count capacity some le = (le-div_iff_mul-le some).1 le
