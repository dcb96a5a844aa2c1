use Rattle.std.proofs.Common.{◌≡◌, ◌≤◌, ◌-◌, ◌++◌, [], max, length, replicate}
use Rattle.part_words.proofs.words.add_parts.Given as goal

abbrev pub invariant-loop-added : goal.invariant-loop-added
invariant-loop-added g l =
    record { count : length l.parts.items ≡ l._added; within : l._added ≤ max l.count (length l.initial.parts.items); more : length l.initial.parts.items ≤ length l.parts.items; items : l.parts.items ≡ l.initial.parts.items ++ replicate (length l.parts.items - length l.initial.parts.items) [] }
