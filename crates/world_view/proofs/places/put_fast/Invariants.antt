use Rattle.std.proofs.Common.{◌≡◌, take}
use Rattle.std.specs.Prelude.{fold}
use Rattle.stats_text.specs.Views.{lists_of}
use Rattle.stats_text.specs.declared.views.Place.TheVariants as places
use Rattle.world_view.specs.Places.{found_by_address, put_found, placed_in}
use Rattle.world_view.proofs.places.put_fast.Given as goal

abbrev pub invariant-loop-bin : goal.invariant-loop-bin
invariant-loop-bin l = found_by_address l.found ≡ fold put_found (found_by_address l.initial.found) (placed_in places.Fast (lists_of (take l.bin-index l.bins)))
