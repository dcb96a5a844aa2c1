-- The generator: a trace of so many lines from a seed, by draws and by queues of trays (this project's own).
use Rattle.std.specs.Prelude.{◌≡◌, ℕ, zero, suc, ◌+◌, ◌*◌, ◌/◌, ◌%◌, ◌^◌, ◌==◌, Bool, true, false, ◌&&◌, List, [], ◌∷◌, ◌++◌, nat_lt, nat_le, slice_index_or, slice_set, if◌then◌else◌}
use Rattle.trace_text.specs.declared.trace.Call.{Call}
use Rattle.trace_text.specs.declared.trace.Call.TheVariants.{Malloc, Realloc, Free, Post, Take}
use Rattle.trace_text.specs.declared.trace.Line.{Line}
use Rattle.trace_text.specs.Before.{is_held, was_posted}
use Rattle.trace_text.specs.Grammar.{place_after}

-- the seed of the next draw
unfoldable pub next_seed : ℕ → ℕ
next_seed seed = (seed * 6364136223846793005 + 1442695040888963407) % 2 ^ 64

-- what a draw from a seed gives: the upper 31 bits of the next seed
unfoldable pub draw : ℕ → ℕ
draw seed = next_seed seed / 2 ^ 33

-- what the next line is made from, beside the lines before it: the seed of the next draw, the trays that wait for each
-- of the threads 0 to 3, the oldest in front, and the tray that is posted next
pub record State : Type 0 where
  pub seed : ℕ
  pub queues : List (List ℕ)
  pub next_tray : ℕ

-- the state behind a draw
abbrev pub behind_draw : State → State
behind_draw s = record s { seed = next_seed s.seed }

-- the trays that wait for a thread
abbrev pub queue_of : List (List ℕ) → ℕ → List ℕ
queue_of queues thread = slice_index_or queues thread []

-- how many sizes a block's size is drawn from, by the draw of its kind: mostly few
abbrev pub sizes_of : ℕ → ℕ
sizes_of kind = if nat_lt kind 12 then 1025 else (if nat_lt kind 15 then 20001 else 300001)

-- a new block, of a size that is drawn. Here and below: the call that is made, and the state behind it
unfoldable pub malloc_made : ℕ → State → Call × State
malloc_made name s =
    (Malloc name (draw (behind_draw s).seed % sizes_of (draw s.seed % 16)), behind_draw (behind_draw s))

-- the call of a thread under a name that it doesn't hold, by the trays that wait for it: the oldest is taken, and a
-- new block where there is none
unfoldable pub unheld_made : List ℕ → ℕ → ℕ → State → Call × State
unheld_made [] thread name s = malloc_made name s
unheld_made (tray ∷ others) thread name s = (Take name tray, record s { queues = slice_set s.queues thread others })

-- the thread that trays of a thread are posted to
abbrev pub receiver_of : ℕ → ℕ
receiver_of thread = (thread + 1) % 4

-- the block is posted to the next tray, which waits behind all others of the receiver
unfoldable pub post_made : ℕ → ℕ → State → Call × State
post_made thread name s = (
  Post name s.next_tray,
  record s {
    queues = slice_set s.queues (receiver_of thread) (queue_of s.queues (receiver_of thread) ++ s.next_tray ∷ []);
    next_tray = s.next_tray + 1;
  },
)

-- another size for the block, from 1 to 4,096 bytes, as is drawn
unfoldable pub realloc_made : ℕ → State → Call × State
realloc_made name s = (Realloc name (draw s.seed % 4096 + 1), behind_draw s)

-- the call under a name that is held, by the draw of its kind: realloc, a post while there are trays, or free
unfoldable pub held_made : ℕ → ℕ → ℕ → State → Call × State
held_made kind thread name s =
    if kind == 0 then realloc_made name s
    else (if kind == 1 && nat_le s.next_tray 65535 then post_made thread name s else (Free name, s))

-- the call of a thread under a name, which is held or isn't
unfoldable pub call_made : Bool → ℕ → ℕ → State → Call × State
call_made true thread name s = held_made (draw s.seed % 8) thread name (behind_draw s)
call_made false thread name s = unheld_made (queue_of s.queues thread) thread name s

-- the line behind these: the thread and the name are drawn, and then what the call needs
unfoldable pub line_made : List Line → State → Line × State
line_made before s =
    let thread = draw s.seed % 4 in
    let name = draw (behind_draw s).seed % 1024 + 1 in
    let made = call_made (is_held thread name before) thread name (behind_draw (behind_draw s)) in
    (record { thread = thread; number = place_after before; call = made.0 }, made.1)

-- these lines, and so many more
unfoldable pub more_lines : List Line → State → ℕ → List Line
more_lines before s zero = before
more_lines before s (suc count) =
    let made = line_made before s in more_lines (before ++ made.0 ∷ []) made.1 count

-- before the first line: nothing waits, and tray 0 is next
abbrev pub first_state : ℕ → State
first_state seed = record { seed = seed; queues = [] ∷ [] ∷ [] ∷ [] ∷ []; next_tray = 0 }

-- the lines of a seed, so many
unfoldable pub lines_made : ℕ → ℕ → List Line
lines_made seed count = more_lines [] (first_state seed) count

-- a take stands behind a post of its tray
abbrev pub IsPosted : List Line → Call → Type 0
IsPosted before (Take name tray) = was_posted tray before ≡ true
IsPosted before _ = Unit {0}

-- so does each of these lines, where others stand before them
unfoldable pub AllPosted : List Line → List Line → Type 0
AllPosted before [] = Unit {0}
AllPosted before (line ∷ lines) = IsPosted before line.call × AllPosted (before ++ line ∷ []) lines

-- each take of a trace does
abbrev pub TakesPosted : List Line → Type 0
TakesPosted lines = AllPosted [] lines
