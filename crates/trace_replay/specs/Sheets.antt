-- What is written of a run, line by line: the records of a report, or the counts of a summary (this project's own). No
-- public clause cites this file.
use Rattle.std.specs.Prelude.{◌≡◌, ℕ, ◌+◌, ◌^◌, ◌<◌, Bool, true, false, List, [], ◌∷◌, ◌++◌, length, codes, Result, Ok}
use Rattle.own_blocks.specs.declared.reply.Reply.{Reply}
use Rattle.stats_text.specs.declared.answer_counts.Counts.{Counts}
use Rattle.stats_text.specs.Appends.{LacksRoom}
use Rattle.stats_text.specs.AnswerCounts.{HasRoom, counts_of}
use Rattle.stats_text.specs.Summary.{summary_of}
use Rattle.stats_text.specs.Views.{Shown}
use Rattle.trace_text.specs.declared.trace.Line.{Line}
use Rattle.trace_text.specs.Spelling.{spelling, texts_of, Allows}
use Rattle.trace_replay.specs.declared.exit.Exit.{Exit}
use Rattle.trace_replay.specs.declared.sheet.Notes.{Notes}
use Rattle.trace_replay.specs.declared.sheet.Notes.TheVariants as notes
use Rattle.trace_replay.specs.declared.sheet.Sheet.{Sheet}
use Rattle.trace_replay.specs.declared.sheet.Sheet.TheVariants.{Report, Summary}
use Rattle.trace_replay.specs.Records.{outcomes_of, record_of, records_of}
use Rattle.trace_replay.specs.Runs.{Run}
use Rattle.trace_replay.specs.SerialText.{sections}
use Rattle.trace_replay.specs.World.{World}

-- the lines of a trace, of whichever version
pub record AreLines (lines : List Line) : Type 0 where
  pub version : ℕ
  pub allowed : Allows version lines

-- the bytes of a trace with these lines
pub record IsTrace (lines : List Line) (bytes : List ℕ) : Type 0 where
  pub version : ℕ
  pub allowed : Allows version lines
  pub spelled : bytes ≡ spelling version lines

-- the bytes that a sheet is made with: for a report they spell the lines, and a summary needs none
abbrev pub Spells : Bool → List ℕ → List Line → Type 0
Spells true bytes lines = Unit {0}
Spells false bytes lines = IsTrace lines bytes

-- A sheet for a summary, or for a report, has these replies so far: their counts, or the first line and their records.
abbrev pub HasNoted : Bool → Sheet → List (Line × Reply) → Type 0
HasNoted true (Summary counts) replies = counts ≡ counts_of (outcomes_of replies)
HasNoted false (Report records) replies = records.text.items ≡ codes "ptmreport 1 serial\n" ++ records_of replies
HasNoted summary sheet replies = ⊥

-- so many answers more can be counted
pub record HasRoomFor (c : Counts) (more : ℕ) : Type 0 where
  pub lines : c.lines + more < 2 ^ 64
  pub got : c.got + more < 2 ^ 64
  pub null : c.null + more < 2 ^ 64
  pub missed : c.missed + more < 2 ^ 64
  pub skip : c.skip + more < 2 ^ 64

-- the lines that are to come: a report has their texts, and a summary can count them
abbrev pub Awaits : Sheet → List Line → Type 0
Awaits (Report records) lines = records.texts ≡ texts_of lines
Awaits (Summary counts) lines = HasRoomFor counts (length lines)

-- a line more can be noted
abbrev pub CanNote : Sheet → Type 0
CanNote (Report records) = Unit {0}
CanNote (Summary counts) = HasRoom counts

-- A sheet behind one line more: it awaits the rest, and has the reply behind those that it had.
pub record NotesReply (before : Sheet) (line : Line) (reply : Reply) (rest : List Line) (now : Sheet) : Type 0 where
  pub awaits : Awaits now rest
  pub noted : (summary : Bool) (replies : List (Line × Reply)) → HasNoted summary before replies →
      HasNoted summary now (replies ++ (line, reply) ∷ [])

-- A reply can't be noted for want of memory: its record is longer than the room that is left. A summary wants no memory.
abbrev pub LacksRoomFor : Sheet → Line → Reply → Type 0
LacksRoomFor (Report records) line reply = LacksRoom records.text (record_of (line, reply))
LacksRoomFor (Summary counts) line reply = ⊥

-- Lines give a run, which ends in this world, and a sheet has its replies, where it had none before.
pub record NotesRun {K : Type 0} (before now : Sheet) (rules : Result (Run K) Exit) (w : World K) : Type 0 where
  pub run : Run K
  pub gives : rules ≡ Ok run
  pub world : run.world ≡ w
  pub noted : (summary : Bool) → HasNoted summary before [] → HasNoted summary now run.replies

-- what a sheet has, where no more lines come
abbrev pub notes_of : Sheet → Notes
notes_of (Report records) = notes.Report records.text
notes_of (Summary counts) = notes.Summary counts

-- the text of this, with what is shown at the end
abbrev pub text_with : Notes → Shown → List ℕ
text_with (notes.Report text) s = text.items ++ sections s
text_with (notes.Summary counts) s = summary_of counts s
