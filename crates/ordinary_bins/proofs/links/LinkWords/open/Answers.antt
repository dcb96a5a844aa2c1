use Rattle.std.proofs.Common.{sym, subst}
use Rattle.part_words.specs.Extents.{IsOpen}
use Rattle.part_words.proofs.Opening.{IsOpen-extended}
use Rattle.ordinary_bins.proofs.Steps.{reopened}
use Rattle.ordinary_bins.proofs.links.LinkWords.open.Goals as goal

pub invariant_of-self : goal.invariant_of-self
invariant_of-self c =
    (reopened {nodes = c.self.inside.nodes} {v = c.args.self.now} (record { linked = c.self.invariant; view = c.self.view_is }) c.open.ensures.links (λ n o. subst (λ e. IsOpen e n) (sym c.in_err-open.ensures.err) o)).linked

pub invariant_of-self-2 : goal.invariant_of-self-2
invariant_of-self-2 c =
    (reopened {nodes = c.self.inside.nodes} {v = c.args.self.now} (record { linked = c.self.invariant; view = c.self.view_is }) c.open.ensures.links (λ n o. subst (λ e. IsOpen e n) (sym c.in_ok-open.ensures.extent) (IsOpen-extended _ _ _ n o))).linked
