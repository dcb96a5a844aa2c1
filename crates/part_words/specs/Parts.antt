-- Words in parts (this project's own).
use Rattle.std.specs.Prelude.{ℕ, ◌+◌, ◌-◌, ◌*◌, ◌/◌, ◌%◌, List, [], ◌++◌, nat_eq, if◌then◌else◌, length, map, replicate, slice_index_or}
use Rattle.part_words.specs.Extents.{Extent, index_of}

-- Where the first part begins, how many words lie from the beginning of a part to that of the next, and the open
-- words of each part.
pub record Parts (T : Type 0) : Type 0 where
  pub base : ℕ
  pub width : ℕ
  pub parts : List (List T)

abbrev pub no_words : {T : Type 0} → ℕ → ℕ → Parts T
no_words base stride = record { base = base; width = stride / 16; parts = [] }

-- the word of an address, and the default where there is none
unfoldable pub word_at : {T : Type 0} → Parts T → T → ℕ → T
word_at ws default at =
    let n = index_of ws.base at in
    if nat_eq (ws.base + 16 * n) at
    then slice_index_or (slice_index_or ws.parts (n / ws.width) []) (n % ws.width) default
    else default

-- the same parts, each word seen through a function
abbrev pub seen_through : {T U : Type 0} → (T → U) → Parts T → Parts U
seen_through f ws = record { base = ws.base; width = ws.width; parts = map (map f) ws.parts }

-- a function of the address, with another value at one address
abbrev pub update : {T : Type 0} → (ℕ → T) → ℕ → T → ℕ → T
update f at value a = if nat_eq a at then value else f a

-- which addresses have a word
abbrev pub extent_of : {T : Type 0} → Parts T → Extent
extent_of ws = record { base = ws.base; width = ws.width; words = map length ws.parts }

-- so many words at least, the new ones alike
abbrev pub filled : {T : Type 0} → ℕ → T → List T → List T
filled n fill ws = ws ++ replicate (n - length ws) fill
