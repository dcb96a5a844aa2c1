use Rattle.std.proofs.Common.{◌≡◌, ◌+◌, drop}
use Rattle.world_view.specs.Scenes.{place_in_list}
use Rattle.world_view.proofs.arenas.place_in_list.Given as goal

abbrev pub invariant-loop-place : goal.invariant-loop-place
invariant-loop-place l = l.place + place_in_list l.number (drop l.place l.list) ≡ place_in_list l.number l.list
