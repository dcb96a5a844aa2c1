use Rattle.std.proofs.Common.{◌≡◌, map, take}
use Rattle.std.specs.Prelude.{fold}
use Rattle.world_view.specs.Places.{found_by_address, put_found}
use Rattle.world_view.proofs.places.put_list.Given as goal

abbrev pub invariant-loop-addr : goal.invariant-loop-addr
invariant-loop-addr l = found_by_address l.found ≡ fold put_found (found_by_address l.initial.found) (map (λ addr. (addr, l.place)) (take l.addr-index l.addrs))
