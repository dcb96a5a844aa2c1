use Rattle.std.proofs.Common.{map}
use Rattle.serial_places.proofs.Ends.{IsSplit}
use Rattle.serial_places.proofs.end.split_slots.Given as goal

abbrev pub invariant-loop-slot : goal.invariant-loop-slot
invariant-loop-slot l = IsSplit l.yielded l.arenas.items (map (λ l. l.items) l.fast.items)
