use Rattle.trace_text.specs.Before.{is_held, has_ended, was_posted, was_taken}
use Rattle.trace_text.proofs.MarkTables.{unmarked, none_held_at}
use Rattle.trace_text.proofs.seen.Seen.new.Goals as goal

pub returns : goal.returns
unfolding is_held has_ended was_posted was_taken
returns c = record {
  held = λ thread name. rw c.in_ok-no_names.ensures (none_held_at 64 thread name);
  ended = λ thread. rw c.new.ensures (unmarked thread);
  posted = λ tray. rw c.new-2.ensures (unmarked tray);
  taken = λ tray. rw c.new-3.ensures (unmarked tray);
}
