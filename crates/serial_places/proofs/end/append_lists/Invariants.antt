use Rattle.std.proofs.Common.{◌≡◌, ◌++◌}
use Rattle.serial_places.proofs.end.append_lists.Given as goal

abbrev pub invariant-loop-list : goal.invariant-loop-list
invariant-loop-list l = l.lists.items ≡ l.fn.lists.items ++ l.yielded
