use Rattle.std.proofs.Common.{map, drop}
use Rattle.world_view.specs.Places.{found_by_address}
use Rattle.world_view.specs.Rows.{plains_of}
use Rattle.world_view.proofs.Going.{ShowsSoFar}
use Rattle.world_view.proofs.arenas.shown_arenas.Given as goal

abbrev pub invariant-loop-index : goal.invariant-loop-index
invariant-loop-index l = ShowsSoFar (found_by_address l.found) l.list (map (λ v. v.items) l.lists) (plains_of l.arenas) l.index (plains_of (drop l.index l.arenas)) l.views.items
