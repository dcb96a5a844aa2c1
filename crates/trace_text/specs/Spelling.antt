-- The one spelling of a trace, and which traces there are (this project's own).
use Rattle.std.specs.Prelude.{◌≡◌, ℕ, ◌+◌, ◌^◌, ◌<◌, ◌≤◌, false, List, [], ◌∷◌, ◌++◌, length, codes, Ok}
use Rattle.std.specs.Fmt.{decimal}
use Rattle.std.specs.List.{flat_map}
use Rattle.trace_text.specs.declared.trace.Call.{Call}
use Rattle.trace_text.specs.declared.trace.Call.TheVariants.{Malloc, Calloc, Realloc, Align, Free, Post, Take, Exit}
use Rattle.trace_text.specs.declared.trace.Line.{Line}
use Rattle.trace_text.specs.Before.{has_ended}
use Rattle.trace_text.specs.Grammar.{header, highest_name, fitting}

-- a number behind a space
abbrev pub spaced : ℕ → List ℕ
spaced n = codes " " ++ decimal n

-- a call: the command, and the numbers behind it
abbrev pub call_spelling : Call → List ℕ
call_spelling (Malloc name size) = codes "m" ++ spaced name ++ spaced size
call_spelling (Calloc name n size) = codes "c" ++ spaced name ++ spaced n ++ spaced size
call_spelling (Realloc name size) = codes "r" ++ spaced name ++ spaced size
call_spelling (Align name align size) = codes "a" ++ spaced name ++ spaced align ++ spaced size
call_spelling (Free name) = codes "f" ++ spaced name
call_spelling (Post name tray) = codes "p" ++ spaced name ++ spaced tray
call_spelling (Take name tray) = codes "t" ++ spaced name ++ spaced tray
call_spelling Exit = codes "x"

-- a line, without its newline
abbrev pub spelling_of : Line → List ℕ
spelling_of line = decimal line.thread ++ codes " " ++ call_spelling line.call

-- a trace of a version: the header, and each line with its newline
abbrev pub spelling : ℕ → List Line → List ℕ
spelling version lines = header version ++ codes "\n" ++ flat_map (λ line. spelling_of line ++ codes "\n") lines

-- the parts of a trace round its newlines, behind the header: a line each, and nothing behind the last newline
abbrev pub texts_of : List Line → List (List ℕ)
texts_of [] = [] ∷ []
texts_of (line ∷ lines) = spelling_of line ∷ texts_of lines

-- which versions there are
abbrev pub IsVersion : ℕ → Type 0
IsVersion version = (1 ≤ version) × (version ≤ 2)

-- what a name of a version may be
abbrev pub IsName : ℕ → ℕ → Type 0
IsName version name = (1 ≤ name) × (name ≤ highest_name version)

-- what a thread may call, whatever stands before: the numbers are in their ranges, and thread 0 doesn't end
abbrev pub IsCall : ℕ → ℕ → Call → Type 0
IsCall version thread (Malloc name size) = IsName version name × (size < 2 ^ 64)
IsCall version thread (Calloc name n size) = IsName version name × (n < 2 ^ 64) × (size < 2 ^ 64)
IsCall version thread (Realloc name size) = IsName version name × (size < 2 ^ 64)
IsCall version thread (Align name align size) = IsName version name × (align < 2 ^ 64) × (size < 2 ^ 64)
IsCall version thread (Free name) = IsName version name
IsCall version thread (Post name tray) = IsName version name × (tray ≤ 65535)
IsCall version thread (Take name tray) = IsName version name × (tray ≤ 65535)
IsCall version thread Exit = 0 < thread

-- a line that may stand behind these lines in a trace of a version; its number is its place, where the header is line 1
pub record Fits (version : ℕ) (before : List Line) (line : Line) : Type 0 where
  pub number : line.number ≡ length before + 2
  pub thread : line.thread ≤ 63
  pub goes_on : has_ended line.thread before ≡ false
  pub call : IsCall version line.thread line.call
  pub suits : fitting before line.thread line.call ≡ Ok tt

-- each line fits the lines before it
unfoldable pub AllFit : ℕ → List Line → List Line → Type 0
AllFit version before [] = Unit {0}
AllFit version before (line ∷ lines) = Fits version before line × AllFit version (before ++ line ∷ []) lines

-- the version and the lines of a trace
abbrev pub Allows : ℕ → List Line → Type 0
Allows version lines = IsVersion version × AllFit version [] lines
