use Rattle.std.proofs.Common.{◌≡◌, true, false, sym, ◌∙◌, arith, rules}
use Rattle.std.proofs.lemmas.Bool.{ltb-true}
use Rattle.consolidate_trim.proofs.HoldSteps.{hand_own}
use Rattle.arena_growth.proofs.MainGrowth.{closes_some}
use Rattle.realloc_align.proofs.Accounts.{backed_less}
use Rattle.realloc_align.proofs.Tails.{can_cut, parts_backed, enough_hand, tail_stays, tail_goes, tail_short}
use Rattle.realloc_align.proofs.aligning.cut_tail.Goals as goal

pub returns-then-not-has_tail-clause-aligns : goal.returns-then-not-has_tail-clause-aligns
returns-then-not-has_tail-clause-aligns g c =
    let none : c.has_tail.result ≡ false = search rules in
    tail_stays _ c.args.t.now c.args.c.now c.args.nb _ c.requires.backed.sound (sym c.has_tail.ensures ∙ none)

pub returns-then-not-has_tail-clause-fits : goal.returns-then-not-has_tail-clause-fits
returns-then-not-has_tail-clause-fits g c = enough_hand c.args.c.now c.args.nb c.requires.backed c.requires.fits

pub part-tail-requires-clause-own : goal.part-tail-requires-clause-own
part-tail-requires-clause-own g c = hand_own c.args.c.now c.requires.backed

pub part-tail-requires-clause-rest : goal.part-tail-requires-clause-rest
part-tail-requires-clause-rest g c =
    let some : c.has_tail.result ≡ true = search rules in
    (can_cut c.args.c.now c.args.nb c.requires.backed c.requires.size.chunk (omega (arith, ltb-true _ _ (sym c.has_tail.ensures ∙ some)))).rest

pub release-requires-clause-backed : goal.release-requires-clause-backed
release-requires-clause-backed g c = λ k l.
    let some : c.has_tail.result ≡ true = search rules in
    let cut = can_cut c.args.c.now c.args.nb c.requires.backed c.requires.size.chunk (omega (arith, ltb-true _ _ (sym c.has_tail.ensures ∙ some))) in
    rw (c.part-tail.ensures.rest, c.part-tail.ensures.arena) (backed_less (parts_backed c.args.c.now c.args.nb c.requires.backed cut) (λ e. omega arith))

pub returns-in_err-release-clause-aligns : goal.returns-in_err-release-clause-aligns
returns-in_err-release-clause-aligns g c =
    let some : c.has_tail.result ≡ true = search rules in
    let is = sym c.has_tail.ensures ∙ some in
    let cut = can_cut c.args.c.now c.args.nb c.requires.backed c.requires.size.chunk (omega (arith, ltb-true _ _ is)) in
    let released = rw (c.part-tail.ensures.rest, c.part-tail.ensures.arena) at c.in_err-release.ensures.gives in
    tail_short _ c.args.t.now c.args.c.now c.args.nb _ _ c.in_err-release.field-0.0 c.from_residual.result c.from_residual.ensures.0 is cut (closes_some _ c.args.t.now _ _ _ _ _ _ _ _ _ _ _ _ released)

pub returns-clause-aligns : goal.returns-clause-aligns
returns-clause-aligns g c =
    let some : c.has_tail.result ≡ true = search rules in
    let is = sym c.has_tail.ensures ∙ some in
    let cut = can_cut c.args.c.now c.args.nb c.requires.backed c.requires.size.chunk (omega (arith, ltb-true _ _ is)) in
    let released = rw (c.part-tail.ensures.rest, c.part-tail.ensures.arena) at c.in_ok-release.ensures.gives in
    rw c.front_of.ensures (tail_goes _ c.args.t.now c.args.c.now c.args.nb _ _ is cut (closes_some _ c.args.t.now _ _ _ _ _ _ _ _ _ _ _ _ released))
