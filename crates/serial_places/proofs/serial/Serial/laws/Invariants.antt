use Rattle.std.proofs.Common.{ℕ, ◌<◌, None, slice_index_or}
use Rattle.serial_places.proofs.Ends.{IsUsualIn}
use Rattle.serial_places.proofs.serial.Serial.laws.Given as goal

abbrev pub invariant-loop-slot : goal.invariant-loop-slot
invariant-loop-slot l = (k : ℕ) → k < l.slot-index → IsUsualIn (slice_index_or l.slot-items k None)
