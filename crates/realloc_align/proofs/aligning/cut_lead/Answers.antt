use Rattle.std.proofs.Common.{arith}
use Rattle.consolidate_trim.proofs.HoldSteps.{hand_own}
use Rattle.arena_growth.proofs.MainGrowth.{closes_some}
use Rattle.realloc_align.proofs.Accounts.{backed_less}
use Rattle.realloc_align.proofs.Tails.{can_cut, parts_backed, cuts_short}
use Rattle.realloc_align.proofs.aligning.cut_lead.Goals as goal

pub part-part-requires-clause-own : goal.part-part-requires-clause-own
part-part-requires-clause-own g c = hand_own c.args.c.now c.requires.backed

pub part-part-requires-clause-rest : goal.part-part-requires-clause-rest
part-part-requires-clause-rest g c = (can_cut c.args.c.now c.args.lead c.requires.backed c.requires.chunk c.requires.fits).rest

pub release-requires-clause-backed : goal.release-requires-clause-backed
release-requires-clause-backed g c = λ k l.
    let cut = can_cut c.args.c.now c.args.lead c.requires.backed c.requires.chunk c.requires.fits in
    rw (c.front_of.ensures, c.part-part.ensures.arena) (backed_less (parts_backed c.args.c.now c.args.lead c.requires.backed cut) (λ e. omega arith))

pub returns-in_err-release-clause-cuts : goal.returns-in_err-release-clause-cuts
returns-in_err-release-clause-cuts g c =
    let released = rw (c.front_of.ensures, c.part-part.ensures.arena) at c.in_err-release.ensures.gives in
    cuts_short _ c.args.t.now c.args.c.now c.args.lead _ _ c.in_err-release.field-0.0 c.from_residual.result c.from_residual.ensures.0 (closes_some _ c.args.t.now _ _ _ _ _ _ _ _ _ _ _ _ released)

pub returns-clause-cuts : goal.returns-clause-cuts
returns-clause-cuts g c =
    let released = rw (c.front_of.ensures, c.part-part.ensures.arena) at c.in_ok-release.ensures.gives in
    closes_some _ c.args.t.now _ _ _ _ _ _ _ _ _ _ _ _ released
