-- What the words of a command line ask for (this project's own).
use Rattle.std.specs.Prelude.{ℕ, ◌&&◌, ◌||◌, Bool, true, not, List, [], ◌∷◌, drop, fold, Option, Some, None, is_some, option_map, String, if◌then◌else◌}
use Rattle.std.specs.List.{list_any}
use Rattle.std.specs.Str.{bytes_eq}
use Rattle.chunk_tags.specs.Tunables.{defaults_of}
use Rattle.chunk_tags.specs.declared.tunables.Mode.{Mode}
use Rattle.chunk_tags.specs.declared.tunables.Mode.TheVariants as modes
use Rattle.command_words.specs.declared.asked.Asked.{Asked}
use Rattle.command_words.specs.declared.asked.Generated.{Generated}
use Rattle.command_words.specs.declared.part.Choice.{Choice}
use Rattle.command_words.specs.declared.part.Choice.TheVariants.{Sets}
use Rattle.command_words.specs.declared.setting.Setting.TheVariants.{Gen, Lines, Trim}
use Rattle.command_words.specs.declared.tuning.Draft.{Draft}
use Rattle.command_words.specs.Options.{threads_flag, summary_flag, set}
use Rattle.command_words.specs.Parts.{Word, Given, texts_of, parts_of, choice_of}

-- ---- options that go together

-- whether an option with this name is given
abbrev pub gives : Word → List Given → Bool
gives name parts = list_any (λ given. bytes_eq given.name name) parts

-- whether each option is one of the command, with a value as it takes it, and none is given twice
unfoldable pub are_taken : List Given → Bool
are_taken [] = true
are_taken (given ∷ more) = is_some (choice_of given) && (not (gives given.name more) && are_taken more)

-- a seed and a count of lines come both or not at all; None where only one is given
abbrev pub generated_if : Option ℕ → Option ℕ → Option (Option Generated)
generated_if None None = Some None
generated_if (Some seed) (Some lines) = Some (Some (record { seed = seed; lines = lines }))
generated_if seed lines = None

-- ---- what is asked for

abbrev pub fresh_draft : Mode → Draft
fresh_draft mode = record { tunables = defaults_of mode; seed = None; lines = None; trim = None }

-- what is asked for, with one choice more
abbrev pub with_choice : Draft → Option Choice → Draft
with_choice draft (Some (Sets Gen n)) = record draft { seed = Some n }
with_choice draft (Some (Sets Lines n)) = record draft { lines = Some n }
with_choice draft (Some (Sets Trim n)) = record draft { trim = Some n }
with_choice draft (Some (Sets setting n)) = record draft { tunables = set setting n draft.tunables }
with_choice draft _ = draft

abbrev pub with_part : Draft → Given → Draft
with_part draft given = with_choice draft (choice_of given)

-- the options' choices, over the starting values
abbrev pub draft_of : Mode → List Given → Draft
draft_of mode parts = fold with_part (fresh_draft mode) parts

abbrev pub mode_of : List Given → Mode
mode_of parts = if gives threads_flag parts then modes.Threads else modes.Serial

abbrev pub asked_with : List Given → Draft → Option Generated → Asked
asked_with parts draft generated = record {
  mode = mode_of parts;
  tunables = draft.tunables;
  generated = generated;
  summary = gives summary_flag parts;
  trim = draft.trim;
}

-- whether the options are taken, and no summary is asked for of a run with threads, or of one that is trimmed at its end
abbrev pub is_taken : List Given → Draft → Bool
is_taken parts draft =
    are_taken parts && not (gives summary_flag parts && (gives threads_flag parts || is_some draft.trim))

-- what options ask for that choose this
abbrev pub asked_if : List Given → Draft → Option Asked
asked_if parts draft =
    if is_taken parts draft then option_map (asked_with parts draft) (generated_if draft.seed draft.lines) else None

abbrev pub asked_from : List Given → Option Asked
asked_from parts = asked_if parts (draft_of (mode_of parts) parts)

-- What words, as bytes, ask for; None where they aren't taken. The first is the program's name, whatever it says.
abbrev pub asked_by : List Word → Option Asked
asked_by words = asked_from (parts_of (drop 1 words))

abbrev pub asked_of : {A : Type 0} → List (String A) → Option Asked
asked_of words = asked_by (texts_of words)
