-- Which addresses have a word (this project's own).
use Rattle.std.specs.Prelude.{◌≡◌, ℕ, ◌+◌, ◌-◌, ◌*◌, ◌/◌, ◌%◌, ◌<◌, ◌≤◌, max, List, [], ◌∷◌, slice_index, zero, suc}

-- Where the first part begins, how many words lie from the beginning of a part to that of the next, and how many
-- words of each part are open.
pub record Extent : Type 0 where
  pub base : ℕ
  pub width : ℕ
  pub words : List ℕ

-- the number of the word of an address
abbrev pub index_of : ℕ → ℕ → ℕ
index_of base at = (at - base) / 16

-- there is a word for this address
pub record IsOpen (e : Extent) (at : ℕ) : Type 0 where
  pub place : e.base + 16 * index_of e.base at ≡ at
  pub below : index_of e.base at % e.width < slice_index e.words (index_of e.base at / e.width)

-- a range of whole words of one part
pub record IsWithinPart (e : Extent) (at len : ℕ) : Type 0 where
  pub place : e.base + 16 * index_of e.base at ≡ at
  pub whole : len % 16 ≡ 0
  pub fits : index_of e.base at % e.width + len / 16 ≤ e.width

-- there is a word for each 16 bytes of a range
abbrev pub AreOpen : Extent → ℕ → ℕ → Type 0
AreOpen e at len = (n : ℕ) → 16 * n < len → IsOpen e (at + 16 * n)

-- the element at an index changes, with others before it where there are none
abbrev pub changed_at : {X : Type 0} → X → ℕ → (X → X) → List X → List X
changed_at none zero f [] = f none ∷ []
changed_at none zero f (x ∷ xs) = f x ∷ xs
changed_at none (suc n) f [] = none ∷ changed_at none n f []
changed_at none (suc n) f (x ∷ xs) = x ∷ changed_at none n f xs

-- the words of a range are opened, and those before it in its part
abbrev pub extended : Extent → ℕ → ℕ → Extent
extended e at len =
    let n = index_of e.base at in
    record e { words = changed_at 0 (n / e.width) (max (n % e.width + len / 16)) e.words }

-- the second has a word wherever the first has one
pub record IsWider (e f : Extent) : Type 0 where
  pub base : f.base ≡ e.base
  pub width : f.width ≡ e.width
  pub words : (part : ℕ) → slice_index e.words part ≤ slice_index f.words part
