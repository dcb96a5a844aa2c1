-- What contracts inside the crate see of parts and numbers (this project's own). No public clause cites this file.
use Rattle.std.specs.Prelude.{ℕ, ◌==◌, ◌&&◌, Bool, false, not, List, [], ◌∷◌, option_map, IsTrue}
use Rattle.command_words.specs.declared.part.Part.{Part}
use Rattle.command_words.specs.declared.part.Choice.{Choice}
use Rattle.command_words.specs.declared.part.Choice.TheVariants.{Sets}
use Rattle.command_words.specs.Options.{takes_number}
use Rattle.command_words.specs.Parts.{Given}

abbrev pub given_by : Part → Given
given_by part = record { name = part.name.now; value = option_map (λ text. text.now) part.value }

-- a number that is chosen is one of its option's range
abbrev pub IsFitting : Choice → Type 0
IsFitting (Sets setting n) = IsTrue (takes_number setting n)
IsFitting choice = Unit {0}

-- no plus (43), and no zero (48) in front of further digits
abbrev pub has_plain_front : List ℕ → Bool
has_plain_front [] = false
has_plain_front (digit ∷ []) = not (digit == 43)
has_plain_front (first ∷ next ∷ more) = not (first == 43) && not (first == 48)
