use Rattle.std.proofs.Common.{◌≡◌, take}
use Rattle.world_view.specs.Places.{found_by_address, shown_tiles}
use Rattle.world_view.proofs.places.tile_views.Given as goal

abbrev pub invariant-loop-t : goal.invariant-loop-t
invariant-loop-t l = l.views.items ≡ shown_tiles (found_by_address l.found) (take l.t-index l.tiles)
