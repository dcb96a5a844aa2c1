-- Which names the threads hold, as a mark for each (this project's own). No public clause cites this file.
use Rattle.std.specs.Prelude.{◌≡◌, ℕ, ◌+◌, ◌*◌, ◌<◌, ◌≤◌, Bool, false, List, slice_index_or}
use Rattle.trace_text.specs.declared.trace.Call.{Call}
use Rattle.trace_text.specs.declared.trace.Call.TheVariants.{Malloc, Calloc, Realloc, Align, Free, Post, Take, Exit}
use Rattle.trace_text.specs.declared.trace.Line.{Line}
use Rattle.trace_text.specs.Before.{is_held}

-- the place of a thread's name among the marks
abbrev pub place_of : ℕ → ℕ → ℕ
place_of thread name = thread * 1025 + name

abbrev pub is_marked : List Bool → ℕ → ℕ → Bool
is_marked marks thread name = slice_index_or marks (place_of thread name) false

-- the name of a call; 0 where it has none
abbrev pub name_or_zero : Call → ℕ
name_or_zero (Malloc name size) = name
name_or_zero (Calloc name n size) = name
name_or_zero (Realloc name size) = name
name_or_zero (Align name align size) = name
name_or_zero (Free name) = name
name_or_zero (Post name tray) = name
name_or_zero (Take name tray) = name
name_or_zero Exit = 0

-- a thread and a name as they are drawn
pub record IsDrawn (thread name : ℕ) : Type 0 where
  pub known_thread : thread < 4
  pub known_name : name ≤ 1024

-- the marks say what these lines say of the names that are drawn
pub record Knows (marks : List Bool) (before : List Line) : Type 0 where
  pub held : (thread name : ℕ) → IsDrawn thread name → is_marked marks thread name ≡ is_held thread name before
