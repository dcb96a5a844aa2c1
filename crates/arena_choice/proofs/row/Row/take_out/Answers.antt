use Rattle.std.proofs.Common.{rules, not}
use Rattle.std.specs.Prelude.{◌==◌}
use Rattle.std.proofs.lemmas.Fn.{filter_same}
use Rattle.arena_choice.proofs.row.Row.take_out.Goals as goal

pub returns-clause-rest : goal.returns-clause-rest
returns-clause-rest c = rw (← c.self.view_is) (filter_same _ (λ x. not (x == c.args.a)) _ (λ x b f h. search rules) _ _ c.retain.ensures.filtered)
