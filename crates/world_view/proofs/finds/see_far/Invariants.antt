use Rattle.std.proofs.Common.{◌≡◌}
use Rattle.std.specs.Prelude.{fold}
use Rattle.malloc_calls.specs.Threads.{names_of}
use Rattle.world_view.specs.Places.{far_finds}
use Rattle.world_view.proofs.FarFinds.{finds_under}
use Rattle.world_view.specs.Sights.{seen_in, put_seen}
use Rattle.world_view.proofs.finds.see_far.Given as goal

abbrev pub invariant-loop-name : goal.invariant-loop-name
invariant-loop-name g l =
    fold put_seen (seen_in l.sights) (finds_under l.number (names_of l.thread).far l.name-iterator) ≡ fold put_seen (seen_in l.initial.sights) (far_finds l.number (names_of l.thread).far)
