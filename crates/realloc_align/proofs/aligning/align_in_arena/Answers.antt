use Rattle.arena_growth.proofs.Balance.{works_ok}
use Rattle.arena_growth.specs.declared.found.Found.TheVariants.{InArena, InMapping, Nowhere}
use Rattle.realloc_align.proofs.Accounts.{works_comes}
use Rattle.realloc_align.proofs.Tails.{aligned_found, aligned_short, found_comes, search_short, found_hand, mapped_fits}
use Rattle.realloc_align.proofs.aligning.align_in_arena.Goals as goal

pub returns-in_err-c-clause-finds : goal.returns-in_err-c-clause-finds
returns-in_err-c-clause-finds g c =
    search_short _ c.args.t.now c.args.align c.args.nb _ _ _ c.in_err-c.field-0.0 c.from_residual.result c.from_residual.ensures.0 c.size_with_lead-padded.ensures c.in_err-c.ensures.finds

pub align_in-requires-clause-backed : goal.align_in-requires-clause-backed
align_in-requires-clause-backed g c = λ k l. found_hand _ c.args.t.now _ c.in-InArena.c _ _ c.requires.ready.backed (rw c.in-InArena.is at c.in_ok-c.ensures.finds)

pub returns-in_err-align_in-in-InArena-clause-finds : goal.returns-in_err-align_in-in-InArena-clause-finds
returns-in_err-align_in-in-InArena-clause-finds g c =
    works_comes _ (found_comes _ c.args.t.now c.args.align c.args.nb _ _ _ (InArena c.in-InArena.c) c.size_with_lead-padded.ensures (rw c.in-InArena.is at c.in_ok-c.ensures.finds))
    (aligned_short _ c.args.t.now _ c.in-InArena.c c.in_err-align_in-in-InArena.field-0.0 _ _ c.from_residual-in_err-align_in-in-InArena.result c.from_residual-in_err-align_in-in-InArena.ensures.0 c.in_err-align_in-in-InArena.ensures.aligns)

pub returns-in_ok-align_in-in-InArena-clause-finds : goal.returns-in_ok-align_in-in-InArena-clause-finds
returns-in_ok-align_in-in-InArena-clause-finds g c =
    works_comes _ (found_comes _ c.args.t.now c.args.align c.args.nb _ _ _ (InArena c.in-InArena.c) c.size_with_lead-padded.ensures (rw c.in-InArena.is at c.in_ok-c.ensures.finds))
    (aligned_found _ c.args.t.now _ c.in-InArena.c c.in_ok-align_in-in-InArena.field-0 _ _ c.in_ok-align_in-in-InArena.ensures.aligns)

pub returns-in-InMapping-clause-finds : goal.returns-in-InMapping-clause-finds
returns-in-InMapping-clause-finds g c =
    let comes = found_comes _ c.args.t.now c.args.align c.args.nb _ _ _ (InMapping c.in-InMapping.c) c.size_with_lead-padded.ensures (rw c.in-InMapping.is at c.in_ok-c.ensures.finds) in
    works_ok comes.reaches comes.balances

pub returns-in-InMapping-clause-fits : goal.returns-in-InMapping-clause-fits
returns-in-InMapping-clause-fits g c = mapped_fits c.args.align c.args.nb c.in-InMapping.c c.requires.align c.requires.size.chunk.1 (rw (c.in-InMapping.is, c.size_with_lead-padded.ensures) at c.in_ok-c.ensures.fits)

pub returns-in-Nowhere-clause-finds : goal.returns-in-Nowhere-clause-finds
returns-in-Nowhere-clause-finds g c =
    let comes = found_comes _ c.args.t.now c.args.align c.args.nb _ _ _ Nowhere c.size_with_lead-padded.ensures (rw c.in-Nowhere.is at c.in_ok-c.ensures.finds) in
    works_ok comes.reaches comes.balances
