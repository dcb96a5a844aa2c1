use Rattle.std.proofs.Common.{rules, of_calls, ap, ◌∙◌}
use Rattle.std.proofs.lemmas.Fn.{always_returns_same}
use Rattle.std.proofs.lemmas.List.Sorted.{IsNonDecreasingBy-from_sort_by_key}
use Rattle.world_view.specs.Places.{Placed, found_by_address}
use Rattle.world_view.proofs.Tables.{by_address_same}
use Rattle.world_view.proofs.table.PlaceList.sorted.Goals as goal

pub invariant_of-result : goal.invariant_of-result
invariant_of-result c = IsNonDecreasingBy-from_sort_by_key (λ (f : Placed). f.0) _ c.in_ok-sort_by_key.ensures.sorted (λ a r q k. search rules)

pub returns : goal.returns
returns c =
    by_address_same c.self.inside.found.items c.sort_by_key.new.self.items
    (c.in_ok-sort_by_key.ensures.stable (λ (f : Placed). f.0) (always_returns_same _ _ _ (λ a r q k. search (rules, of_calls))))
    ∙ ap found_by_address c.self.view_is
