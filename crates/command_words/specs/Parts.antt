-- The words of a command line, cut into options with their values, and what each of these chooses (this project's own).
use Rattle.std.specs.Prelude.{◌≡◌, ℕ, ◌<◌, ◌==◌, ◌&&◌, Bool, true, false, not, nat_lt, List, [], ◌∷◌, length, codes, map, Option, Some, None, is_some, option_map, option_and_then, String, if◌then◌else◌}
use Rattle.std.specs.List.{position_or_len, before_first, after_first}
use Rattle.std.specs.Option.{option_map_or}
use Rattle.std.specs.Str.{bytes_eq}
use Rattle.std.specs.String.{string_bytes}
use Rattle.trace_text.specs.Numbers.{numeral_value}
use Rattle.command_words.specs.declared.part.Choice.{Choice}
use Rattle.command_words.specs.declared.part.Choice.TheVariants.{Sets, Threads, Summary}
use Rattle.command_words.specs.declared.setting.Setting.{Setting}
use Rattle.command_words.specs.Options.{setting_named, threads_flag, summary_flag, takes_number}

-- ---- one word

abbrev pub Word : Type 0
Word = List ℕ

abbrev pub texts_of : {A : Type 0} → List (String A) → List Word
texts_of words = map string_bytes words

-- An option as it was given: its name behind `--`, and its value where it has one. What is no option has the empty
-- name, which no option has.
pub record Given : Type 0 where
  pub name : Word
  pub value : Option Word

-- what follows a first byte
abbrev pub strip_byte : ℕ → Word → Option Word
strip_byte byte [] = None
strip_byte byte (x ∷ xs) = if x == byte then Some xs else None

-- what follows the two hyphens (45) that an option begins with
abbrev pub behind_hyphens : Word → Option Word
behind_hyphens word = option_and_then (strip_byte 45) (strip_byte 45 word)

abbrev pub is_equals : ℕ → Bool
is_equals byte = byte == 61

-- `name=value`, cut at the first `=`, or a name alone
abbrev pub value_within : Word → Option Word
value_within text =
    if nat_lt (position_or_len is_equals text) (length text) then Some (after_first is_equals text) else None

abbrev pub option_by : Word → Given
option_by text = record { name = before_first is_equals text; value = value_within text }

abbrev pub no_option : Given
no_option = record { name = []; value = None }

-- a word by itself
abbrev pub word_alone : Word → Given
word_alone word = option_map_or option_by (behind_hyphens word) no_option

-- whether the next word is the value: the option takes one, and has none yet
abbrev pub awaits_value : Given → Bool
awaits_value given = not (is_some given.value) && is_some (setting_named given.name)

-- ---- all words

-- by whether a lone last `--` ends the words, and whether the next word is the value
abbrev pub cut_by : Bool → Bool → Given → (Option Word → List Given) → List Given
cut_by true awaits given rest = []
cut_by false true given rest = rest (Some given.name)
cut_by false false given rest = given ∷ rest None

abbrev pub is_empty : List Word → Bool
is_empty words = length words == 0

abbrev pub with_word : Option Word → Word → Bool → (Option Word → List Given) → List Given
with_word (Some name) word last rest = record { name = name; value = Some word } ∷ rest None
with_word None word last rest =
    cut_by (last && bytes_eq word (codes "--")) (awaits_value (word_alone word)) (word_alone word) rest

-- the options that words give, where one with this name waits for its value, or none does
unfoldable pub parts_from : Option Word → List Word → List Given
parts_from None [] = []
parts_from (Some name) [] = record { name = name; value = None } ∷ []
parts_from waiting (word ∷ words) = with_word waiting word (is_empty words) (λ next. parts_from next words)

-- the options that words give
abbrev pub parts_of : List Word → List Given
parts_of words = parts_from None words

-- the first option that words give, and the words behind it
pub record CutsOff (words rest : List Word) (given : Given) : Type 0 where
  pub parts : parts_of words ≡ given ∷ parts_of rest
  pub shorter : length rest < length words

-- ---- what an option chooses

abbrev pub number_within : Setting → Option ℕ → Option ℕ
number_within setting None = None
number_within setting (Some n) = if takes_number setting n then Some n else None

-- the value of a setting: a number of its range
abbrev pub number_for : Setting → Option Word → Option ℕ
number_for setting value = number_within setting (option_and_then numeral_value value)

abbrev pub flag_by : Word → Option Choice
flag_by name = if bytes_eq name threads_flag then Some Threads
    else (if bytes_eq name summary_flag then Some Summary else None)

-- an option without a value
abbrev pub flag_of : Given → Option Choice
flag_of given = if is_some given.value then None else flag_by given.name

abbrev pub choice_by : Option Setting → Given → Option Choice
choice_by (Some setting) given = option_map (Sets setting) (number_for setting given.value)
choice_by None given = flag_of given

-- what an option chooses; None where there is no such option, or none with this value
abbrev pub choice_of : Given → Option Choice
choice_of given = choice_by (setting_named given.name) given
