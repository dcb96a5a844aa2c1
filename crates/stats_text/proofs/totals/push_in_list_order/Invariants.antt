use Rattle.std.proofs.Common.{◌≡◌, ◌≤◌, ◌++◌}
use Rattle.std.specs.Prelude.{vec_capacity}
use Rattle.stats_text.specs.Totals.{all_arena_totals}
use Rattle.stats_text.proofs.ListOrder.{at_first_places}
use Rattle.stats_text.proofs.totals.push_in_list_order.Given as goal

abbrev pub invariant-loop-place : goal.invariant-loop-place
invariant-loop-place l = record {
  text : l.out.items ≡ l.initial.out.items ++ all_arena_totals (at_first_places l.place l.arenas);
  room : vec_capacity l.initial.out ≤ vec_capacity l.out;
}
