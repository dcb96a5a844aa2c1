-- What the lines before a line leave: names that are held, threads that have ended, trays that were used
-- (this project's own).
use Rattle.std.specs.Prelude.{ℕ, ◌==◌, Bool, true, false, not, ◌&&◌, ◌||◌, List, fold, if◌then◌else◌}
use Rattle.std.specs.List.{list_any}
use Rattle.trace_text.specs.declared.trace.Call.{Call}
use Rattle.trace_text.specs.declared.trace.Call.TheVariants.{Malloc, Calloc, Realloc, Align, Free, Post, Take, Exit}
use Rattle.trace_text.specs.declared.trace.Line.{Line}

-- whether a name of a thread is held behind a call of that thread, where it was or wasn't before:
-- it is from a line that makes it on, to one that frees it, posts it or resizes it to 0
abbrev pub held_after : ℕ → Bool → Call → Bool
held_after name was (Malloc made size) = made == name || was
held_after name was (Calloc made n size) = made == name || was
held_after name was (Align made align size) = made == name || was
held_after name was (Take made tray) = made == name || was
held_after name was (Free gone) = not (gone == name) && was
held_after name was (Post gone tray) = not (gone == name) && was
held_after name was (Realloc kept size) = not (size == 0 && kept == name) && was
held_after name was Exit = was

-- whether the thread holds the name behind these lines
unfoldable pub is_held : ℕ → ℕ → List Line → Bool
is_held thread name before = fold (λ was line. if line.thread == thread then held_after name was line.call else was) false before

abbrev pub is_exit : Call → Bool
is_exit Exit = true
is_exit _ = false

-- whether the thread has ended
unfoldable pub has_ended : ℕ → List Line → Bool
has_ended thread before = list_any (λ line. is_exit line.call && line.thread == thread) before

abbrev pub is_post : ℕ → Call → Bool
is_post tray (Post name used) = used == tray
is_post tray _ = false

-- whether a line posts to the tray
unfoldable pub was_posted : ℕ → List Line → Bool
was_posted tray before = list_any (λ line. is_post tray line.call) before

abbrev pub is_take : ℕ → Call → Bool
is_take tray (Take name used) = used == tray
is_take tray _ = false

-- whether a line takes from the tray
unfoldable pub was_taken : ℕ → List Line → Bool
was_taken tray before = list_any (λ line. is_take tray line.call) before
