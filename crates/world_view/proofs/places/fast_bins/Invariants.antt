use Rattle.std.proofs.Common.{◌≡◌, map}
use Rattle.std.specs.List.{range_with_len}
use Rattle.stats_text.specs.Views.{lists_of}
use Rattle.world_view.specs.Rows.{fast_bin_at}
use Rattle.world_view.proofs.places.fast_bins.Given as goal

abbrev pub invariant-loop-number : goal.invariant-loop-number
invariant-loop-number l = lists_of l.bins.items ≡ map (fast_bin_at (map (λ v. v.items) l.lists) l.index) (range_with_len 0 l.number)
