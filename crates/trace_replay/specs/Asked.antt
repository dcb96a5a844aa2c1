-- What a run serves of what the words of the command line ask for (this project's own).
use Rattle.std.specs.Prelude.{ℕ, ◌≤◌, Bool, true, false, List, Option, Some, None, IfSome, Result, Ok, Err, String, if◌then◌else◌}
use Rattle.chunk_tags.specs.declared.tunables.Mode.{Mode}
use Rattle.chunk_tags.specs.declared.tunables.Mode.TheVariants.{Serial, Threads}
use Rattle.chunk_tags.specs.Tunables.{IsTuned}
use Rattle.command_words.specs.declared.asked.Asked.{Asked}
use Rattle.command_words.specs.Asked.{asked_by}
use Rattle.command_words.specs.Parts.{texts_of}
use Rattle.trace_replay.specs.declared.exit.Exit.{Exit}
use Rattle.trace_replay.specs.declared.exit.Exit.TheVariants.{Usage, NotBuilt}

abbrev pub is_threads : Mode → Bool
is_threads Threads = true
is_threads Serial = false

-- a run with threads isn't built yet
abbrev pub awaits_building : Asked → Bool
awaits_building asked = is_threads asked.mode

-- words that aren't taken are Usage; what isn't built yet is NotBuilt at line 0, which no line has
abbrev pub served_if : Option Asked → Result Asked Exit
served_if None = Err Usage
served_if (Some asked) = if awaits_building asked then Err (NotBuilt 0) else Ok asked

-- what a run serves for words, as bytes, or how they are refused; the first is the program's name
abbrev pub served_by : List (List ℕ) → Result Asked Exit
served_by words = served_if (asked_by words)

abbrev pub served_of : {A : Type 0} → List (String A) → Result Asked Exit
served_of words = served_by (texts_of words)

-- what is served has tunables in their ranges, and a trace that is made has at most a million lines
pub record IsServable (asked : Asked) : Type 0 where
  pub tuned : IsTuned asked.tunables
  pub few : IfSome asked.generated (λ made. made.lines ≤ 1000000)
