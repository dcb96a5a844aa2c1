use Rattle.std.proofs.Common.{◌≡◌, ◌∷◌, replicate, Some, None}
use Rattle.serial_places.proofs.serial.first_slots.Given as goal

abbrev pub invariant-loop : goal.invariant-loop
invariant-loop l = l.slots.items ≡ Some l.fn.main ∷ replicate l.counter None
