use Rattle.std.proofs.Common.{◌≡◌, map, take}
use Rattle.std.specs.Prelude.{fold}
use Rattle.world_view.specs.Places.{tray_find}
use Rattle.world_view.specs.Sights.{seen_in, put_seen}
use Rattle.world_view.proofs.finds.see_trays.Given as goal

abbrev pub invariant-loop-tray : goal.invariant-loop-tray
invariant-loop-tray l = seen_in l.sights ≡ fold put_seen (seen_in l.initial.sights) (map tray_find (take l.tray-index l.trays))
