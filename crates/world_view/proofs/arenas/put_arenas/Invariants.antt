use Rattle.std.proofs.Common.{◌≡◌, map, drop}
use Rattle.std.specs.Prelude.{fold}
use Rattle.world_view.specs.Places.{found_by_address, put_found}
use Rattle.world_view.specs.Rows.{binned_from, plains_of}
use Rattle.world_view.proofs.arenas.put_arenas.Given as goal

abbrev pub invariant-loop-index : goal.invariant-loop-index
invariant-loop-index l =
    fold put_found (found_by_address l.found) (binned_from (map (λ v. v.items) l.lists) l.index (plains_of (drop l.index l.arenas)))
    ≡ fold put_found (found_by_address l.initial.found) (binned_from (map (λ v. v.items) l.lists) 0 (plains_of l.arenas))
