use Rattle.std.proofs.Common.{◌≡◌, ◌≤◌, [], map, replicate}
use Rattle.std.specs.List.{All}
use Rattle.thread_cache.proofs.open.reserved_lists.Given as goal

abbrev pub invariant-loop-i : goal.invariant-loop-i
invariant-loop-i l = record { empty : map (λ s. s.blocks) l.lists.items ≡ replicate l.i []; room : All (λ s. l.count ≤ s.room) l.lists.items }
