-- What a run promises (this project's own).
use Rattle.std.specs.Prelude.{◌≡◌, ℕ, List, IsTrue, Option, Some, None, Result, Ok, Err, IsOk, IsOkAnd}
use Rattle.std.specs.List.{All}
use Rattle.address_space.specs.Ports.{Port, Rose}
use Rattle.byte_edge.specs.Streams.{Supply, Store, EndsInFailedCall}
use Rattle.byte_edge.specs.Input.{IsWhole, IsTooMuch, IsCutOff}
use Rattle.byte_edge.specs.Output.{HasText, HasPrefix}
use Rattle.command_words.specs.declared.asked.Asked.{Asked}
use Rattle.command_words.specs.declared.asked.Generated.{Generated}
use Rattle.trace_replay.specs.declared.exit.Exit.{Exit}
use Rattle.trace_replay.specs.declared.exit.Exit.TheVariants.{Done, Usage, TooLong, ReadFault, WriteFault, NoMemory, NotBuilt}

-- ---- what is left, whatever source, sink and ports tell

-- the source was read to its end
pub record IsReadWhole {S : Type 0} (supply : Supply S) (before now : S) : Type 0 where
  pub bytes : List ℕ
  pub whole : IsWhole supply before now bytes

-- By the answer, what a run that reads its source leaves of it. A fault is answered exactly where one was counted, and
-- nothing is read behind it, nor behind the read that gave a byte too many. Only for want of memory may bytes be left
-- besides.
abbrev pub LeavesRead : {S : Type 0} → Supply S → S → Exit → S → Type 0
LeavesRead supply before ReadFault now = IsCutOff supply before now
LeavesRead supply before TooLong now = IsTooMuch supply before now
LeavesRead supply before NoMemory now = supply.faults now ≡ supply.faults before
LeavesRead supply before _ now = IsReadWhole supply before now

-- what a run that doesn't read its source leaves of it: all, and no fault of it is answered
abbrev pub LeavesUnread : {S : Type 0} → S → Exit → S → Type 0
LeavesUnread before ReadFault now = ⊥
LeavesUnread before _ now = now ≡ before

-- By the answer, what a run whose words are served leaves of its source. Where its trace is made it isn't read.
abbrev pub LeavesSource : {S : Type 0} → Supply S → Option Generated → S → Exit → S → Type 0
LeavesSource supply None before exit now = LeavesRead supply before exit now
LeavesSource supply (Some made) before exit now = LeavesUnread before exit now

-- a fault was counted, and nothing was asked behind it
pub record IsFaulted {W : Type 0} (store : Store W) (before now : W) : Type 0 where
  pub rose : Rose (store.faults before) (store.faults now)
  pub last : EndsInFailedCall store before now

-- by the answer, what it leaves of its sink: untouched but where a text was written
abbrev pub LeavesSink : {W : Type 0} → Store W → W → Exit → W → Type 0
LeavesSink store before Done now = store.faults now ≡ store.faults before
LeavesSink store before WriteFault now = IsFaulted store before now
LeavesSink store before _ now = now ≡ before

-- nothing is written: the answer is no end of a writing
abbrev pub IsUnwritten : Exit → Type 0
IsUnwritten Done = ⊥
IsUnwritten WriteFault = ⊥
IsUnwritten exit = Unit {0}

-- ---- what the rules give

-- each port tells
abbrev pub AllTell : {K : Type 0} → Port K → List K → Type 0
AllTell port kernels = All (λ k. IsTrue (port.tells k)) kernels

-- A source tells what a run needs of it: that these bytes are left. One that isn't read needn't tell anything, and the
-- bytes are any; so it is where the words are refused, and where the trace is made.
abbrev pub TellsTrace : {S : Type 0} → Supply S → Option Generated → S → List ℕ → Type 0
TellsTrace supply None source bytes = supply.left source ≡ Some bytes
TellsTrace supply (Some made) source bytes = Unit {0}

abbrev pub TellsInput : {S : Type 0} → Supply S → Result Asked Exit → S → List ℕ → Type 0
TellsInput supply (Ok asked) source bytes = TellsTrace supply asked.generated source bytes
TellsInput supply (Err exit) source bytes = Unit {0}

-- the source tells so, and each port tells
pub record AllTold {S K : Type 0} (supply : Supply S) (port : Port K) (asked : Result Asked Exit) (source : S) (kernels : List K) (bytes : List ℕ) : Type 0 where
  pub input : TellsInput supply asked source bytes
  pub ports : AllTell port kernels

-- What a run answers, and writes, where these are the rules: their text, all of it or a prefix, or their refusal. A
-- fault of the source or want of memory may come before.
abbrev pub Answers : {W : Type 0} → Result (List ℕ) Exit → Store W → W → Exit → W → Type 0
Answers rules store before Done now = IsOkAnd rules (λ text. HasText store before text now)
Answers rules store before WriteFault now = IsOkAnd rules (λ text. HasPrefix store before text now)
Answers rules store before ReadFault now = Unit {0}
Answers rules store before NoMemory now = Unit {0}
Answers rules store before exit now = rules ≡ Err exit

-- a refusal of a text is that of the rules; a fault of the source or want of memory may come before
abbrev pub Refuses : Result (List ℕ) Exit → Exit → Type 0
Refuses rules ReadFault = Unit {0}
Refuses rules NoMemory = Unit {0}
Refuses rules exit = rules ≡ Err exit

-- What a run answers where this is its job, whatever the ports are: what the words and the bytes alone refuse,
-- exactly where they do.
abbrev pub AnswersJob : {A : Type 0} → Result A Exit → Exit → Type 0
AnswersJob job Done = IsOk job
AnswersJob job WriteFault = IsOk job
AnswersJob job ReadFault = Unit {0}
AnswersJob job NoMemory = Unit {0}
AnswersJob job exit = job ≡ Err exit

-- how words are refused: they aren't taken, or ask for what isn't built
abbrev pub IsWordRefusal : Exit → Type 0
IsWordRefusal Usage = Unit {0}
IsWordRefusal (NotBuilt line) = line ≡ 0
IsWordRefusal exit = ⊥

-- an answer that no refusal of words is
abbrev pub IsPastWords : Exit → Type 0
IsPastWords Usage = ⊥
IsPastWords (NotBuilt line) = ⊥
IsPastWords exit = Unit {0}

-- a refusal of the text, once the bytes are read: no end of its writing, no fault of the reading, none of the words
abbrev pub IsTextRefusal : Exit → Type 0
IsTextRefusal Done = ⊥
IsTextRefusal Usage = ⊥
IsTextRefusal (NotBuilt line) = ⊥
IsTextRefusal WriteFault = ⊥
IsTextRefusal ReadFault = ⊥
IsTextRefusal TooLong = ⊥
IsTextRefusal exit = Unit {0}

-- ---- what is answered of a trace that may be run

-- no fault of the source was counted, and none of the sink
pub record IsFaultless {S W : Type 0} (supply : Supply S) (store : Store W) (source : S) (sink : W) (read : S) (written : W) : Type 0 where
  pub source_kept : Rose (supply.faults source) (supply.faults read) → ⊥
  pub sink_kept : Rose (store.faults sink) (store.faults written) → ⊥

-- a run that is done, or for which the memory of the program itself ran out
abbrev pub IsDoneOrShort : Exit → Type 0
IsDoneOrShort Done = Unit {0}
IsDoneOrShort NoMemory = Unit {0}
IsDoneOrShort exit = ⊥
