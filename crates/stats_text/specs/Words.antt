-- How numbers and addresses stand in a report (this project's own).
use Rattle.std.specs.Prelude.{ℕ, zero, suc, ◌-◌, ◌/◌, ◌%◌, false, List, [], ◌∷◌, ◌++◌, length, replicate, codes, decimal}
use Rattle.std.specs.List.{flat_map}
use Rattle.chunk_tags.specs.Pages.{user_address}
use Rattle.std.specs.Fmt.{digit_glyph}

-- the last hexadecimal digits of a number, so many of them, in lower case
unfoldable pub hex_digits : ℕ → ℕ → List ℕ
hex_digits zero n = []
hex_digits (suc k) n = hex_digits k (n / 16) ++ digit_glyph false (n % 16) ∷ []

-- the user's address of the chunk at an address: 16 bytes on, with 12 digits
unfoldable pub address : ℕ → List ℕ
address at = codes "0x" ++ hex_digits 12 (user_address at)

-- a block: its user address and its size
unfoldable pub block_text : ℕ → ℕ → List ℕ
block_text addr size = address addr ++ codes " " ++ decimal size

-- user addresses, each behind a space
unfoldable pub addresses : List ℕ → List ℕ
addresses ats = flat_map (λ at. codes " " ++ address at) ats

-- so many blanks
abbrev pub blanks : ℕ → List ℕ
blanks count = replicate count 32

-- a number at the right of ten places; a longer one takes as many as it has digits
unfoldable pub in_ten_places : ℕ → List ℕ
in_ten_places n = blanks (10 - length (decimal n)) ++ decimal n
