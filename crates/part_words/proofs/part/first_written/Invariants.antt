use Rattle.std.proofs.Common.{◌≡◌, ◌-◌, ◌<◌, ◌≤◌, ℕ}
use Rattle.part_words.specs.Slots.{word_in}
use Rattle.part_words.proofs.part.first_written.Given as goal

abbrev pub invariant-loop-at : goal.invariant-loop-at
invariant-loop-at g l =
    record { from : l.fn.from ≤ l.at; within : l.at ≤ g.row.PAGE; before : (x : ℕ) → l.fn.from ≤ x → x < l.at → word_in g.T.Word.UNWRITTEN g.row.PAGE l.whole.words l.slot x ≡ g.T.Word.UNWRITTEN }

abbrev pub decreases-loop-at : goal.decreases-loop-at
decreases-loop-at g l = g.row.PAGE - l.at
