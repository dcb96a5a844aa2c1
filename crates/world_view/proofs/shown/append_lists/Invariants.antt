use Rattle.std.proofs.Common.{◌≡◌, ◌++◌, map, drop}
use Rattle.world_view.specs.Scenes.{cache_lists}
use Rattle.world_view.proofs.shown.append_lists.Given as goal

abbrev pub invariant-loop-index : goal.invariant-loop-index
invariant-loop-index l = l.views.items ++ cache_lists l.thread l.index (map (λ v. v.items) (drop l.index l.lists)) ≡ l.initial.views.items ++ cache_lists l.thread 0 (map (λ v. v.items) l.lists)
