use Rattle.std.proofs.Common.{◌≡◌, map}
use Rattle.std.specs.List.{range_with_len}
use Rattle.stats_text.specs.Views.{lists_of}
use Rattle.world_view.specs.Places.{numbered_bin}
use Rattle.world_view.proofs.places.bins.Given as goal

abbrev pub invariant-loop-number : goal.invariant-loop-number
invariant-loop-number l = lists_of l.bins.items ≡ map (numbered_bin l.ground.arena) (range_with_len 0 l.number)
