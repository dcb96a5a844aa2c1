-- What a page's code says of its words.
use Rattle.std.proofs.Common.{◌≡◌, ℕ, ◌+◌, ◌/◌, ◌%◌, ◌<◌, ◌≤◌, Some, None, refl, arith}
use Rattle.std.proofs.lemmas.Bool.{eq-eqb, ne_eqb, lt-ltb, le-ltb}
use Rattle.part_words.specs.Slots.{Slots, word_in}
use Rattle.part_words.specs.Pages.{slots, whole_slot, lone_slot, page_word}

pub whole_some : (code : ℕ) → code / slots ≡ 1 → whole_slot code ≡ Some (code % slots)
whole_some code e = rw (eq-eqb (code / slots) 1 e) refl

pub whole_none : (code : ℕ) → (code / slots ≡ 1 → ⊥) → whole_slot code ≡ None
whole_none code other = rw (ne_eqb (code / slots) 1 other) refl

pub lone_some : (page code : ℕ) → page ≤ code / slots → lone_slot page code ≡ Some (code % slots)
lone_some page code le = rw (le-ltb (code / slots) page le) refl

pub lone_none : (page code : ℕ) → code / slots < page → lone_slot page code ≡ None
lone_none page code lt = rw (lt-ltb (code / slots) page lt) refl

-- a word of a whole page, the word that alone was written, and a word that wasn't
pub word_whole : {T : Type 0} (none : T) (page code : ℕ) (lone whole : Slots T) (x : ℕ) → code / slots ≡ 1 → page_word none page code lone whole x ≡ word_in none page whole.words (code % slots) x
word_whole none page code lone whole x e = rw (eq-eqb (code / slots) 1 e) refl

pub word_lone : {T : Type 0} (none : T) (page code : ℕ) (lone whole : Slots T) (x : ℕ) → 1 < page → code / slots ≡ page + x → page_word none page code lone whole x ≡ word_in none 1 lone.words (code % slots) 0
word_lone none page code lone whole x some e =
    rw (ne_eqb (code / slots) 1 (λ f. omega (arith, some, e, f)), eq-eqb (code / slots) (page + x) e) refl

pub word_none : {T : Type 0} (none : T) (page code : ℕ) (lone whole : Slots T) (x : ℕ) → (code / slots ≡ 1 → ⊥) → (code / slots ≡ page + x → ⊥) → page_word none page code lone whole x ≡ none
word_none none page code lone whole x other alone =
    rw (ne_eqb (code / slots) 1 other, ne_eqb (code / slots) (page + x) alone) refl
