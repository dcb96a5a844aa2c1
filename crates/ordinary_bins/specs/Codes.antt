-- Nodes as numbers of 32 bits (this project's own). No public clause cites this file.
use Rattle.std.specs.Prelude.{◌≡◌, ℕ, ◌+◌, ◌-◌, ◌*◌, ◌%◌, ◌^◌, ◌<◌, ◌≤◌, nat_lt, if◌then◌else◌}
use Rattle.part_words.specs.Extents.{Extent, IsOpen, index_of}
use Rattle.ordinary_bins.specs.Lists.{bin_count}

-- the first code that counts from where the second part begins, and how many such codes there are
abbrev pub far : ℕ
far = 2147483648

-- how many words from the beginning of the first part on have a code below that
abbrev pub near_words : ℕ
near_words = 2147483521

-- the number of a code's word
abbrev pub word_of : ℕ → ℕ → ℕ
word_of width code = if nat_lt code far then code - bin_count else width + (code - far)

-- The node of a code, where parts begin at `base` and every `width` words after it: a bin's own node is its code.
unfoldable pub node_of : ℕ → ℕ → ℕ → ℕ
node_of base width code =
    if nat_lt code bin_count then code else (base + 16 * word_of width code) % 2 ^ 64

-- there is a code for a word: it is among the first ones, or among those from where the second part begins
pub record HasCode (width word : ℕ) : Type 0 where
  pub room : near_words ≤ word → (width ≤ word) × (word < width + far)

-- parts begin at `base` and every `width` words after it, and there is a code for each of their words
pub record AreCoded (base width : ℕ) (e : Extent) : Type 0 where
  pub base_is : e.base ≡ base
  pub width_is : e.width ≡ width
  pub wide : 0 < width
  pub codes : (n : ℕ) → IsOpen e n → HasCode width (index_of base n)
