use Rattle.std.proofs.Common.{◌≡◌, ◌≤◌, ◌++◌, take}
use Rattle.std.specs.Prelude.{vec_capacity, ◌==◌, filter}
use Rattle.stats_text.specs.Totals.{all_arena_totals}
use Rattle.stats_text.proofs.totals.push_arena_at.Given as goal

abbrev pub invariant-loop-arena : goal.invariant-loop-arena
invariant-loop-arena l = record {
  text : l.out.items ≡ l.initial.out.items ++ all_arena_totals (filter (λ a. a.list == l.place) (take l.arena-index l.arenas));
  room : vec_capacity l.initial.out ≤ vec_capacity l.out;
}
