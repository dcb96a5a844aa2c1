use Rattle.std.proofs.Common.{◌≡◌, map, take}
use Rattle.arena_choice.specs.Books.{arena_of}
use Rattle.world_view.proofs.shown.thread_views.Given as goal

abbrev pub invariant-loop-thread : goal.invariant-loop-thread
invariant-loop-thread l = l.threads.items ≡ map (λ thread. (thread, arena_of l.book thread)) (take l.thread-index l.lines)
