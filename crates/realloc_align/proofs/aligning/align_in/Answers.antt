use Rattle.std.proofs.Common.{arith}
use Rattle.realloc_align.proofs.Tails.{has_lead, lead_goes, lead_short, part_backed, fits_at}
use Rattle.realloc_align.proofs.aligning.align_in.Goals as goal

pub cut_lead-requires-clause-chunk : goal.cut_lead-requires-clause-chunk
cut_lead-requires-clause-chunk g c = λ k l. (has_lead c.args.align c.args.nb c.args.c.now _ c.lead_of-lead.ensures (λ e. omega (arith, e)) c.requires.align c.requires.backed c.requires.size.chunk.1 c.requires.fits).chunk

pub cut_lead-requires-clause-fits : goal.cut_lead-requires-clause-fits
cut_lead-requires-clause-fits g c = λ k l. (has_lead c.args.align c.args.nb c.args.c.now _ c.lead_of-lead.ensures (λ e. omega (arith, e)) c.requires.align c.requires.backed c.requires.size.chunk.1 c.requires.fits).fits

pub returns-in_err-part-clause-aligns : goal.returns-in_err-part-clause-aligns
returns-in_err-part-clause-aligns g c =
    let lead = has_lead c.args.align c.args.nb c.args.c.now _ c.lead_of-lead.ensures (λ e. omega (arith, e)) c.requires.align c.requires.backed c.requires.size.chunk.1 c.requires.fits in
    lead_short _ c.args.t.now c.args.align c.args.nb c.args.c.now _ _ _ c.in_err-part.field-0.0 c.from_residual.result c.from_residual.ensures.0 lead c.in_err-part.ensures.cuts

pub cut_tail-requires-2-clause-backed : goal.cut_tail-requires-2-clause-backed
cut_tail-requires-2-clause-backed g c = λ k l.
    let lead = has_lead c.args.align c.args.nb c.args.c.now _ c.lead_of-lead.ensures (λ e. omega (arith, e)) c.requires.align c.requires.backed c.requires.size.chunk.1 c.requires.fits in
    rw c.in_ok-part.ensures.part (part_backed _ c.args.t.now c.args.c.now c.lead_of-lead.result _ _ c.requires.backed lead.cut c.in_ok-part.ensures.cuts)

pub returns-clause-aligns : goal.returns-clause-aligns
returns-clause-aligns g c =
    let lead = has_lead c.args.align c.args.nb c.args.c.now _ c.lead_of-lead.ensures (λ e. omega (arith, e)) c.requires.align c.requires.backed c.requires.size.chunk.1 c.requires.fits in
    let tail = rw c.in_ok-part.ensures.part at c.cut_tail-2.ensures.aligns in
    lead_goes _ c.args.t.now c.args.align c.args.nb c.args.c.now c.lead_of-lead.result _ _ _ _ lead c.in_ok-part.ensures.cuts tail

pub returns-clause-fits : goal.returns-clause-fits
returns-clause-fits g c =
    let lead = has_lead c.args.align c.args.nb c.args.c.now _ c.lead_of-lead.ensures (λ e. omega (arith, e)) c.requires.align c.requires.backed c.requires.size.chunk.1 c.requires.fits in
    fits_at c.args.align c.args.nb c.in_ok-part.part _ (rw c.in_ok-part.ensures.part lead.aligned) c.cut_tail-2.ensures.at c.cut_tail-2.ensures.fits
