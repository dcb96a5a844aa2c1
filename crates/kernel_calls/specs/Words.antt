-- The words of the command line (this project's own).
use Rattle.std.specs.Prelude.{ℕ, ◌+◌, ◌==◌, ◌&&◌, Bool, not, nat_eq, nat_lt, List, length, drop, position, remove, codes, Option, String}
use Rattle.std.specs.List.{zip, position_or_len, starts_with}
use Rattle.std.specs.Option.{option_map_or}
use Rattle.std.specs.Str.{bytes_eq}
use Rattle.std.specs.String.{string_bytes}

-- whether a word has a `=` (61)
unfoldable pub has_equals : List ℕ → Bool
has_equals word = nat_lt (position_or_len (λ byte. byte == 61) word) (length word)

-- a word that begins with `--` and isn't `--name=value`
unfoldable pub is_name_alone : List ℕ → Bool
is_name_alone word = starts_with nat_eq word (codes "--") && not (has_equals word)

-- any word but the options that take no value
unfoldable pub is_no_flag : List ℕ → Bool
is_no_flag word = not (bytes_eq word (codes "--threads")) && not (bytes_eq word (codes "--summary"))

-- Whether the word behind this one belongs to it, as its value or as what stands behind a `--`. So it does behind
-- `--by-thread` itself.
unfoldable pub has_next : List ℕ → Bool
has_next word = is_name_alone word && is_no_flag word

abbrev pub is_flag : {A : Type 0} → String A → Bool
is_flag word = bytes_eq (string_bytes word) (codes "--by-thread")

-- The place of the first `--by-thread` that doesn't belong to the word before it, counted from the word behind the
-- program's name.
unfoldable pub flag_place : {A : Type 0} → List (String A) → Option ℕ
flag_place words = position (λ pair. is_flag pair.1 && not (has_next (string_bytes pair.0))) (zip words (drop 1 words))

-- the words without it
unfoldable pub plain_words : {A : Type 0} → List (String A) → List (String A)
plain_words words = option_map_or (λ place. remove words (place + 1)) (flag_place words) words
