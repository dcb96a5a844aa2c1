use Rattle.std.proofs.Common.{None, Some, ap, ◌∙◌}
use Rattle.arena_rules.specs.Moves.{left_of_closed}
use Rattle.heap_top.proofs.regions.Regions.close_top.Goals as goal

pub returns-in-Some-clause-rest : goal.returns-in-Some-clause-rest
returns-in-Some-clause-rest c =
    c.close.ensures.rest ∙ ap (λ o. elim o [ None ↦ None | Some t ↦ left_of_closed t ]) c.in-Some.ensures.top
