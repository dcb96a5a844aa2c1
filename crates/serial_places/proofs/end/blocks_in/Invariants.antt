use Rattle.std.proofs.Common.{◌≡◌, length}
use Rattle.serial_places.specs.Trays.{full_trays}
use Rattle.serial_places.proofs.end.blocks_in.Given as goal

abbrev pub invariant-loop-tray : goal.invariant-loop-tray
invariant-loop-tray l = record { number : l.number ≡ length l.yielded; blocks : l.blocks.items ≡ full_trays 0 l.yielded }
