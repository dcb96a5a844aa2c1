use Rattle.std.proofs.Common.{◌≡◌, map, take}
use Rattle.std.specs.Prelude.{fold}
use Rattle.world_view.specs.Places.{cached_find}
use Rattle.world_view.specs.Sights.{seen_in, put_seen}
use Rattle.world_view.proofs.finds.see_cached.Given as goal

abbrev pub invariant-loop-chunk : goal.invariant-loop-chunk
invariant-loop-chunk g l = seen_in l.sights ≡ fold put_seen (seen_in l.initial.sights) (map (cached_find l.number) (take l.chunk-index l.chunk-items))
