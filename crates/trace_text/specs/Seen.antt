-- What the tables of a reader say: the same as the lines before (this project's own). No public clause cites this file.
use Rattle.std.specs.Prelude.{◌≡◌, ℕ, ◌==◌, ◌&&◌, ◌||◌, List, if◌then◌else◌}
use Rattle.trace_text.specs.declared.seen.Seen.{Seen}
use Rattle.trace_text.specs.declared.trace.Line.{Line}
use Rattle.trace_text.specs.Marks.{has}
use Rattle.trace_text.specs.Names.{holds_at}
use Rattle.trace_text.specs.Before.{held_after, is_held, is_exit, has_ended, is_post, was_posted, is_take, was_taken}

-- the tables say what these lines say
pub record Knows (seen : Seen) (before : List Line) : Type 0 where
  pub held : (thread name : ℕ) → holds_at seen.held.items thread name ≡ is_held thread name before
  pub ended : (thread : ℕ) → has seen.ended thread ≡ has_ended thread before
  pub posted : (tray : ℕ) → has seen.posted tray ≡ was_posted tray before
  pub taken : (tray : ℕ) → has seen.taken tray ≡ was_taken tray before

-- the tables take a line in
pub record Adds (old new : Seen) (line : Line) : Type 0 where
  pub held : (thread name : ℕ) → holds_at new.held.items thread name
      ≡ (if line.thread == thread then held_after name (holds_at old.held.items thread name) line.call else holds_at old.held.items thread name)
  pub ended : (thread : ℕ) → has new.ended thread ≡ (is_exit line.call && line.thread == thread || has old.ended thread)
  pub posted : (tray : ℕ) → has new.posted tray ≡ (is_post tray line.call || has old.posted tray)
  pub taken : (tray : ℕ) → has new.taken tray ≡ (is_take tray line.call || has old.taken tray)
