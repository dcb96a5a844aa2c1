use Rattle.std.proofs.Common.{◌≡◌, drop}
use Rattle.std.specs.Prelude.{fold}
use Rattle.malloc_calls.specs.Threads.{names_of}
use Rattle.world_view.specs.Places.{named_from}
use Rattle.world_view.specs.Sights.{seen_in, put_seen}
use Rattle.world_view.proofs.finds.see_row.Given as goal

abbrev pub invariant-loop-name : goal.invariant-loop-name
invariant-loop-name g l = fold put_seen (seen_in l.sights) (named_from l.number l.name (drop l.name (names_of l.thread).near)) ≡ fold put_seen (seen_in l.initial.sights) (named_from l.number 0 (names_of l.thread).near)
