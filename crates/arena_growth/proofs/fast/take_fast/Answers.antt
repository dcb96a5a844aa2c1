use Rattle.std.proofs.Common.{refl, arith}
use Rattle.arena_growth.proofs.Enough.{enough_same}
use Rattle.arena_growth.proofs.FastBins.{fast_not, fast_short, fast_none, fast_found, fast_lost, has_popped}
use Rattle.arena_growth.proofs.fast.take_fast.Goals as goal

pub returns-then-nb-t-clause-steps : goal.returns-then-nb-t-clause-steps
returns-then-nb-t-clause-steps g c = fast_not g.P.FastPort.fast c.args.t.now c.args.nb _ c.requires.backed.sound (omega arith)

pub returns-in_err-at-clause-steps : goal.returns-in_err-at-clause-steps
returns-in_err-at-clause-steps g c =
    rw (c.in_err-at.ensures.port, c.in_err-at.ensures.short)
    (fast_short g.P.FastPort.fast c.args.t.now c.args.nb _ c.from_residual.result c.from_residual.ensures.0 c.requires.backed.sound (omega arith))

pub returns-in-None-clause-steps : goal.returns-in-None-clause-steps
returns-in-None-clause-steps g c =
    let did = rw (c.fast_index.ensures, c.in-None.is) at c.in_ok-at.ensures.popped in
    rw (c.in_ok-at.ensures.told, c.in-None.is)
    (fast_none g.P.FastPort.fast c.args.t.now c.args.nb _ _ _ _ _ c.requires.backed.sound (omega arith) did)

pub stash_fast-requires-clause-backed : goal.stash_fast-requires-clause-backed
stash_fast-requires-clause-backed g c =
    let did = rw (c.fast_index.ensures, c.in-Some.is) at c.in_ok-at.ensures.popped in
    (has_popped g.P.FastPort.fast _ _ _ c.args.nb c.in-Some.at c.requires.chunk c.requires.backed did).backed

pub returns-in_ok-stash_fast-in-Some-clause-steps : goal.returns-in_ok-stash_fast-in-Some-clause-steps
returns-in_ok-stash_fast-in-Some-clause-steps g c =
    let did = rw (c.fast_index.ensures, c.in-Some.is) at c.in_ok-at.ensures.popped in
    let stashes = rw (c.in_ok-at.ensures.told, c.in-Some.is) at c.in_ok-stash_fast-in-Some.ensures.stashes in
    fast_found g.P.FastPort.fast c.args.t.now c.args.nb c.in-Some.at _ _ _ _ _ _ _ c.requires.chunk c.requires.backed (omega arith) did stashes

pub returns-in_err-stash_fast-in-Some-clause-steps : goal.returns-in_err-stash_fast-in-Some-clause-steps
returns-in_err-stash_fast-in-Some-clause-steps g c =
    let did = rw (c.fast_index.ensures, c.in-Some.is) at c.in_ok-at.ensures.popped in
    let stashes = rw (c.in_ok-at.ensures.told, c.in-Some.is) at c.in_err-stash_fast-in-Some.ensures.stashes in
    fast_lost g.P.FastPort.fast c.args.t.now c.args.nb c.in-Some.at _ _ _ _ _ _ _ c.from_residual-in_err-stash_fast-in-Some.result c.in_err-stash_fast-in-Some.field-0.0 c.from_residual-in_err-stash_fast-in-Some.ensures.0 c.requires.chunk c.requires.backed (omega arith) did stashes

pub returns-in_ok-stash_fast-in-Some-clause-fits : goal.returns-in_ok-stash_fast-in-Some-clause-fits
returns-in_ok-stash_fast-in-Some-clause-fits g c = enough_same c.args.nb c.args.nb c.requires.chunk refl
