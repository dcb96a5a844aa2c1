-- How the lines of a trace are kept (this project's own). No public clause cites this file.
use Rattle.std.specs.Prelude.{ℕ, ◌+◌, ◌^◌, ◌<◌, List, [], ◌∷◌, slice_index_or}
use Rattle.trace_text.specs.declared.command.Command.{Command}
use Rattle.trace_text.specs.declared.command.Command.TheVariants as command
use Rattle.trace_text.specs.declared.lines.Row.{Row}
use Rattle.trace_text.specs.declared.trace.Call.{Call}
use Rattle.trace_text.specs.declared.trace.Call.TheVariants.{Malloc, Calloc, Realloc, Align, Free, Post, Take, Exit}
use Rattle.trace_text.specs.declared.trace.Line.{Line}

-- the numbers of a call that has two
abbrev pub pairs_of : Call → List (ℕ × ℕ)
pairs_of (Calloc name n size) = (n, size) ∷ []
pairs_of (Align name align size) = (align, size) ∷ []
pairs_of (Malloc name size) = []
pairs_of (Realloc name size) = []
pairs_of (Free name) = []
pairs_of (Post name tray) = []
pairs_of (Take name tray) = []
pairs_of Exit = []

-- a call by its command, its name, and its number or its pair
abbrev pub call_with : Command → ℕ → ℕ → ℕ × ℕ → Call
call_with command.Malloc name number pair = Malloc name number
call_with command.Calloc name number pair = Calloc name pair.0 pair.1
call_with command.Realloc name number pair = Realloc name number
call_with command.Align name number pair = Align name pair.0 pair.1
call_with command.Free name number pair = Free name
call_with command.Post name number pair = Post name number
call_with command.Take name number pair = Take name number
call_with command.Exit name number pair = Exit

-- the same where a pair has this number among the pairs
abbrev pub call_of : List (ℕ × ℕ) → Command → ℕ → ℕ → Call
call_of pairs command name number = call_with command name number (slice_index_or pairs number (0, 0))

-- what a row's number may be where there are so many pairs: a pair is there, and a tray has 32 bits
abbrev pub IsNumber : Command → ℕ → ℕ → Type 0
IsNumber command.Calloc pairs number = number < pairs
IsNumber command.Align pairs number = number < pairs
IsNumber command.Post pairs number = number < 2 ^ 32
IsNumber command.Take pairs number = number < 2 ^ 32
IsNumber _ pairs number = Unit {0}

abbrev pub IsRow : ℕ → Row → Type 0
IsRow pairs row = IsNumber row.command pairs row.number

-- the line of a row at a place
abbrev pub line_at : ℕ → List (ℕ × ℕ) → Row → Line
line_at place pairs row = record {
  thread = row.thread;
  number = place;
  call = call_of pairs row.command row.name row.number;
}

-- the lines of rows, the first of them at a place
abbrev pub lines_from : ℕ → List (ℕ × ℕ) → List Row → List Line
lines_from place pairs [] = []
lines_from place pairs (row ∷ rows) = line_at place pairs row ∷ lines_from (place + 1) pairs rows
