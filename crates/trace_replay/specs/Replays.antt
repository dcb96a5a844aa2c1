-- What the parts of a run answer, beside the text (this project's own).
use Rattle.std.specs.Prelude.{◌≡◌, Result, Ok, Err}
use Rattle.trace_replay.specs.declared.exit.Exit.{Exit}
use Rattle.trace_replay.specs.declared.exit.Exit.TheVariants.{NoMemory}

-- a refusal is that of the rules; want of memory is free
abbrev pub RefusesAs : {B : Type 0} → Exit → Result B Exit → Type 0
RefusesAs NoMemory rules = Unit {0}
RefusesAs exit rules = rules ≡ Err exit

-- a part of a run does what the rules give: its value shows theirs, and it is refused as they are
abbrev pub AnswersAs : {A B : Type 0} → (A → B → Type 0) → Result A Exit → Result B Exit → Type 0
AnswersAs {A} {B} Shows (Ok a) rules = (b : B) × (rules ≡ Ok b) × Shows a b
AnswersAs Shows (Err exit) rules = RefusesAs exit rules
