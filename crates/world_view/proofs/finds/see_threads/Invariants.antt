use Rattle.std.proofs.Common.{◌≡◌, map, drop}
use Rattle.std.specs.Prelude.{fold}
use Rattle.malloc_calls.specs.Threads.{own_of}
use Rattle.world_view.specs.Places.{threads_finds}
use Rattle.world_view.specs.Sights.{seen_in, put_seen}
use Rattle.world_view.proofs.finds.see_threads.Given as goal

abbrev pub invariant-loop-number : goal.invariant-loop-number
invariant-loop-number g l = fold put_seen (seen_in l.sights) (threads_finds l.number (map own_of (drop l.number l.threads))) ≡ fold put_seen (seen_in l.initial.sights) (threads_finds 0 (map own_of l.threads))
