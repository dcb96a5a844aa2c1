-- Slots with numbers, each with room for so many words, some of which are free (this project's own).
use Rattle.std.specs.Prelude.{◌≡◌, ◌≢◌, ℕ, ◌+◌, ◌*◌, ◌≤◌, ◌<◌, ◌⊎◌, Bool, nat_eq, nat_lt, if◌then◌else◌, List, [], ◌∷◌, ◌++◌, length, slice_index_or}
use Rattle.std.specs.List.{count_by}

-- What stands in the slots, one after the other; how many slots there are, whose numbers are those below; the free ones; and up to
-- how many slots, and how many free ones, no memory is asked for.
pub record Slots (T : Type 0) : Type 0 where
  pub words : List T
  pub count : ℕ
  pub free : List ℕ
  pub room : ℕ

-- the word at an offset of a slot with so many words
abbrev pub word_in : {T : Type 0} → T → ℕ → List T → ℕ → ℕ → T
word_in unwritten width words slot offset = slice_index_or words (slot * width + offset) unwritten

abbrev pub one_if : Bool → ℕ
one_if b = if b then 1 else 0

-- how often a number stands in a list
abbrev pub times : ℕ → List ℕ → ℕ
times n ns = count_by (λ m. nat_eq m n) ns

-- 1 for the number of a slot, and else 0
abbrev pub is_below : ℕ → ℕ → ℕ
is_below n count = one_if (nat_lt n count)

-- Each free number is that of a slot, and stands there once, and no word of the slot is written. Slots have so many words.
pub record AreSlots {T : Type 0} (unwritten : T) (width : ℕ) (words : List T) (count : ℕ) (free : List ℕ) : Type 0 where
  pub long : length words ≡ count * width
  pub once : (n : ℕ) → times n free ≤ is_below n count
  pub clear : (n offset : ℕ) → 1 ≤ times n free → offset < width → word_in unwritten width words n offset ≡ unwritten

-- a word of a slot is another; all else stays
pub record Sets {T : Type 0} (unwritten : T) (width : ℕ) (old : Slots T) (slot offset : ℕ) (word : T) (new : Slots T) : Type 0 where
  pub here : word_in unwritten width new.words slot offset ≡ word
  pub others : (n x : ℕ) → x < width → (n ≡ slot → x ≢ offset)
      → word_in unwritten width new.words n x ≡ word_in unwritten width old.words n x
  pub count : new.count ≡ old.count
  pub free : new.free ≡ old.free
  pub room : new.room ≡ old.room

-- the slot that became free last is taken
pub record Reuses {T : Type 0} (old : Slots T) (slot : ℕ) (new : Slots T) : Type 0 where
  pub free : old.free ≡ new.free ++ slot ∷ []
  pub count : new.count ≡ old.count

-- or, where none is free, one more
pub record Adds {T : Type 0} (old : Slots T) (slot : ℕ) (new : Slots T) : Type 0 where
  pub none : old.free ≡ []
  pub free : new.free ≡ []
  pub next : slot ≡ old.count
  pub count : new.count ≡ old.count + 1

-- no word of it is written; the words of the other slots stay
pub record Takes {T : Type 0} (unwritten : T) (width : ℕ) (old : Slots T) (slot : ℕ) (new : Slots T) : Type 0 where
  pub way : Reuses old slot new ⊎ Adds old slot new
  pub clear : (x : ℕ) → x < width → word_in unwritten width new.words slot x ≡ unwritten
  pub kept : (n x : ℕ) → n < old.count → x < width
      → word_in unwritten width new.words n x ≡ word_in unwritten width old.words n x
  pub room : old.room ≤ new.room

-- a slot becomes free
pub record Gives {T : Type 0} (old : Slots T) (slot : ℕ) (new : Slots T) : Type 0 where
  pub words : new.words ≡ old.words
  pub count : new.count ≡ old.count
  pub free : new.free ≡ old.free ++ slot ∷ []
  pub room : old.room ≤ new.room

-- there is room for more
pub record Widens {T : Type 0} (old new : Slots T) : Type 0 where
  pub words : new.words ≡ old.words
  pub count : new.count ≡ old.count
  pub free : new.free ≡ old.free
  pub room : old.room ≤ new.room
