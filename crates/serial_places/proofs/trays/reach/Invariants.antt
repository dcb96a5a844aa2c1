use Rattle.std.proofs.Common.{◌≡◌, ◌+◌, ◌-◌, ◌≤◌, ◌++◌, replicate, vec_len, vec_capacity}
use Rattle.serial_places.specs.declared.tray.Tray.TheVariants.{Empty}
use Rattle.serial_places.proofs.trays.reach.Given as goal

abbrev pub invariant-loop : goal.invariant-loop
invariant-loop l = record {
  items : l.reached.items ≡ l.fn.reached.items ++ replicate l.counter Empty;
  room : 65536 ≤ vec_capacity l.reached;
  within : vec_len l.reached + (l.missing - l.counter) ≤ vec_capacity l.reached;
}
