use Rattle.std.proofs.Common.{Result, Ok, Err, refl, sym, ◌∙◌}
use Rattle.std.specs.Prelude.{OnErr}
use Rattle.trace_text.proofs.RowLines.{are_rows, lines_same, lines_push}
use Rattle.trace_text.proofs.lines.Lines.push.Goals as goal

-- what is true in any case
on_err : {A E P : Type 0} (r : Result A E) → P → OnErr r P
on_err (Ok x) p = tt
on_err (Err e) p = p

pub returns-in_err-push-clause-err : goal.returns-in_err-push-clause-err
returns-in_err-push-clause-err c =
    on_err c.from_residual-in_err-push.result (lines_same _ _ _ _ _ _ c.in_ok-push_pair.ensures.ok c.in_err-push.ensures.items c.self.view_is c.self.invariant)

pub invariant_of-self-2 : goal.invariant_of-self-2
invariant_of-self-2 c =
    are_rows _ _ _ c.len.result _ _ _ c.in_ok-push_pair.ensures.ok c.in_ok-push.ensures.items (c.len.ensures ∙ c.self.inside.pairs.ok.0) c.parts_of-command.ensures.number c.self.invariant

pub returns-clause-ok : goal.returns-clause-ok
returns-clause-ok c =
    lines_push _ _ _ _ _ _ _ c.args.line c.in_ok-push_pair.ensures.ok c.in_ok-push.ensures.items c.self.view_is c.self.invariant refl c.requires
    (c.parts_of-command.ensures.same c.self.inside.pairs.items (sym (c.len.ensures ∙ c.self.inside.pairs.ok.0)))
