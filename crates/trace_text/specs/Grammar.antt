-- What a trace is: a header, and lines of which each fits the lines before it; or else which line is the
-- first that is faulty, and its first fault (this project's own).
use Rattle.std.specs.Prelude.{ℕ, ◌+◌, ◌==◌, Bool, not, ◌&&◌, List, [], ◌∷◌, ◌++◌, length, codes, Option, Some, None, Result, Ok, Err, nat_lt, nat_le, if◌then◌else◌}
use Rattle.std.specs.List.{list_all, slice_split}
use Rattle.std.specs.Option.{ok_or}
use Rattle.std.specs.Str.{bytes_eq}
use Rattle.trace_text.specs.declared.fault.BadWhy.{BadWhy}
use Rattle.trace_text.specs.declared.fault.BadWhy.TheVariants as bad
use Rattle.trace_text.specs.declared.command.Command.{Command}
use Rattle.trace_text.specs.declared.command.Command.TheVariants as command
use Rattle.trace_text.specs.declared.trace.Call.{Call}
use Rattle.trace_text.specs.declared.trace.Call.TheVariants.{Malloc, Calloc, Realloc, Align, Free, Post, Take, Exit}
use Rattle.trace_text.specs.declared.trace.Line.{Line}
use Rattle.trace_text.specs.Numbers.{numeral_value}
use Rattle.trace_text.specs.Before.{is_held, has_ended, was_posted, was_taken}

-- a step behind another; the first fault ends them
infixl 10 ◌>>=◌
abbrev pub ◌>>=◌ : {A B : Type 0} → Result A BadWhy → (A → Result B BadWhy) → Result B BadWhy
(Ok x) >>= f = f x
(Err why) >>= f = Err why

abbrev pub is_empty : List ℕ → Bool
is_empty bytes = length bytes == 0

-- the fields of a line: the parts round its spaces
abbrev pub fields_of : List ℕ → List (List ℕ)
fields_of text = slice_split (λ b. b == 32) text

-- no field is empty
abbrev pub all_filled : List (List ℕ) → Bool
all_filled fields = list_all (λ field. not (is_empty field)) fields

-- how many threads a trace can name
abbrev pub threads : ℕ
threads = 64

-- the first line of a trace, by its version, which is 1 or 2
abbrev pub header : ℕ → List ℕ
header version = if version == 1 then codes "ptmtrace 1" else codes "ptmtrace 2"

-- the highest name of a version
abbrev pub highest_name : ℕ → ℕ
highest_name version = if version == 1 then 65535 else 4294967295

-- the thread of a field
unfoldable pub thread_of : List ℕ → Result ℕ BadWhy
thread_of field = do
  thread ← ok_or (numeral_value field) bad.Thread
  if nat_lt thread threads then Ok thread else Err bad.Thread

-- the command of a field
unfoldable pub command_of : List ℕ → Result Command BadWhy
command_of field =
    if bytes_eq field (codes "m") then Ok command.Malloc
    else (if bytes_eq field (codes "c") then Ok command.Calloc
    else (if bytes_eq field (codes "r") then Ok command.Realloc
    else (if bytes_eq field (codes "a") then Ok command.Align
    else (if bytes_eq field (codes "f") then Ok command.Free
    else (if bytes_eq field (codes "p") then Ok command.Post
    else (if bytes_eq field (codes "t") then Ok command.Take
    else (if bytes_eq field (codes "x") then Ok command.Exit
    else Err bad.Command)))))))

-- the number of a field behind the command
unfoldable pub number_at : List ℕ → Result ℕ BadWhy
number_at field = ok_or (numeral_value field) bad.Number

-- a number as a name of a version
unfoldable pub name_at : ℕ → ℕ → Result ℕ BadWhy
name_at version number = if nat_le 1 number && nat_le number (highest_name version) then Ok number else Err bad.Name

-- a number as a tray
unfoldable pub tray_read : ℕ → Result ℕ BadWhy
tray_read number = if nat_le number 65535 then Ok number else Err bad.Tray

-- the numbers of so many fields; that the fields are fewer or more comes before any other fault
unfoldable pub one_number : List (List ℕ) → Result ℕ BadWhy
one_number (a ∷ []) = number_at a
one_number _ = Err bad.Fields

unfoldable pub two_numbers : List (List ℕ) → Result (ℕ × ℕ) BadWhy
two_numbers (a ∷ b ∷ []) = do
  first ← number_at a
  second ← number_at b
  Ok (first, second)
two_numbers _ = Err bad.Fields

unfoldable pub three_numbers : List (List ℕ) → Result (ℕ × ℕ × ℕ) BadWhy
three_numbers (a ∷ b ∷ c ∷ []) = do
  first ← number_at a
  second ← number_at b
  third ← number_at c
  Ok (first, second, third)
three_numbers _ = Err bad.Fields

-- nothing; or a fault, where the test says so
abbrev pub fault_if : Bool → BadWhy → Result (Unit {0}) BadWhy
fault_if faulty why = if faulty then Err why else Ok tt

-- the fields behind the command, in a trace of a version: a name alone, or with a size, a tray, or two sizes
abbrev pub name_alone : ℕ → List (List ℕ) → Result ℕ BadWhy
name_alone version fields = do
  number ← one_number fields
  name_at version number

abbrev pub name_and_size : ℕ → List (List ℕ) → Result (ℕ × ℕ) BadWhy
name_and_size version fields = do
  numbers ← two_numbers fields
  name ← name_at version numbers.0
  Ok (name, numbers.1)

abbrev pub name_and_tray : ℕ → List (List ℕ) → Result (ℕ × ℕ) BadWhy
name_and_tray version fields = do
  numbers ← two_numbers fields
  name ← name_at version numbers.0
  tray ← tray_read numbers.1
  Ok (name, tray)

abbrev pub name_and_sizes : ℕ → List (List ℕ) → Result (ℕ × ℕ × ℕ) BadWhy
name_and_sizes version fields = do
  numbers ← three_numbers fields
  name ← name_at version numbers.0
  Ok (name, numbers.1, numbers.2)

-- no field, and thread 0 doesn't end
abbrev pub end_of : ℕ → List (List ℕ) → Result (Unit {0}) BadWhy
end_of thread [] = fault_if (thread == 0) bad.MainExit
end_of thread _ = Err bad.Fields

-- the call of a thread in a trace of a version, by its command and the fields behind it
unfoldable pub call_read : ℕ → ℕ → Command → List (List ℕ) → Result Call BadWhy
call_read version thread command.Malloc fields = do
  read ← name_and_size version fields
  Ok (Malloc read.0 read.1)
call_read version thread command.Calloc fields = do
  read ← name_and_sizes version fields
  Ok (Calloc read.0 read.1 read.2)
call_read version thread command.Realloc fields = do
  read ← name_and_size version fields
  Ok (Realloc read.0 read.1)
call_read version thread command.Align fields = do
  read ← name_and_sizes version fields
  Ok (Align read.0 read.1 read.2)
call_read version thread command.Free fields = do
  name ← name_alone version fields
  Ok (Free name)
call_read version thread command.Post fields = do
  read ← name_and_tray version fields
  Ok (Post read.0 read.1)
call_read version thread command.Take fields = do
  read ← name_and_tray version fields
  Ok (Take read.0 read.1)
call_read version thread command.Exit fields = do
  none ← end_of thread fields
  Ok Exit

-- a name that is to be made isn't held; every other is
abbrev pub making : List Line → ℕ → ℕ → Result (Unit {0}) BadWhy
making before thread name = fault_if (is_held thread name before) bad.Held

abbrev pub using : List Line → ℕ → ℕ → Result (Unit {0}) BadWhy
using before thread name = fault_if (not (is_held thread name before)) bad.NotHeld

-- whether a call fits the lines before it
unfoldable pub fitting : List Line → ℕ → Call → Result (Unit {0}) BadWhy
fitting before thread (Malloc name size) = making before thread name
fitting before thread (Calloc name n size) = making before thread name
fitting before thread (Align name align size) = making before thread name
fitting before thread (Realloc name size) = using before thread name
fitting before thread (Free name) = using before thread name
fitting before thread (Post name tray) = do
  held ← using before thread name
  fault_if (was_posted tray before) bad.TrayTwice
fitting before thread (Take name tray) = do
  free ← making before thread name
  fault_if (was_taken tray before) bad.TrayTwice
fitting before thread Exit = Ok tt

-- the place of the next line: the header is line 1
abbrev pub place_after : List Line → ℕ
place_after before = length before + 2

-- the line of fields that are filled, behind these lines; or its first fault
unfoldable pub filled_line : ℕ → List Line → List ℕ → List ℕ → List (List ℕ) → Result Line BadWhy
filled_line version before first second others = do
  thread ← thread_of first
  goes_on ← fault_if (has_ended thread before) bad.Ended
  command ← command_of second
  call ← call_read version thread command others
  fits ← fitting before thread call
  Ok (record { thread = thread; number = place_after before; call = call })

-- the same of any fields: two at least are needed, and each is to be filled
unfoldable pub line_of : ℕ → List Line → List (List ℕ) → Result Line BadWhy
line_of version before (first ∷ second ∷ others) = if all_filled (first ∷ second ∷ others) then filled_line version before first second others else Err bad.Fields
line_of version before _ = Err bad.Fields

-- a faulty line, by its place, and what is wrong with it
pub record Fault : Type 0 where
  pub line : ℕ
  pub why : BadWhy

-- what a trace says
pub record Content : Type 0 where
  pub version : ℕ
  pub lines : List Line

-- what a text says; or its first faulty line, with the first fault of that line
abbrev pub Reading : Type 0
Reading = Result Content Fault

abbrev pub whole : ℕ → List Line → Reading
whole version lines = Ok (record { version = version; lines = lines })

abbrev pub faulty : ℕ → BadWhy → Reading
faulty place why = Err (record { line = place; why = why })

-- a reading goes on behind a line, or ends at its fault
abbrev pub go_on : List Line → Result Line BadWhy → (List Line → Reading) → Reading
go_on before (Ok line) rest = rest (before ++ line ∷ [])
go_on before (Err why) rest = faulty (place_after before) why

-- the parts of a text round its newlines, read behind these lines of a version; only the last has no newline
unfoldable pub lines_after : ℕ → List Line → List (List ℕ) → Reading
lines_after version before [] = whole version before
lines_after version before (text ∷ []) = if is_empty text then whole version before else faulty (place_after before) bad.Cut
lines_after version before (text ∷ next ∷ more) = go_on before (line_of version before (fields_of text)) (λ so_far. lines_after version so_far (next ∷ more))

-- the version whose header a line is
unfoldable pub version_of : List ℕ → Option ℕ
version_of text = if bytes_eq text (header 1) then Some 1 else (if bytes_eq text (header 2) then Some 2 else None)

-- the parts behind a header; or the fault of a first line that is none
abbrev pub after_header : Option ℕ → List (List ℕ) → Reading
after_header (Some version) parts = lines_after version [] parts
after_header None parts = faulty 1 bad.Header

-- the same with the first line in front
abbrev pub headed : List (List ℕ) → Reading
headed [] = faulty 1 bad.Cut
headed (text ∷ []) = faulty 1 bad.Cut
headed (text ∷ next ∷ more) = after_header (version_of text) (next ∷ more)

-- how these bytes are read
unfoldable pub reading_of : List ℕ → Reading
reading_of bytes = headed (slice_split (λ b. b == 10) bytes)
