use Rattle.std.proofs.Common.{arith}
use Rattle.realloc_align.proofs.Addresses.{no_lead, far_lead, near_lead}
use Rattle.realloc_align.proofs.aligning.lead_of.Goals as goal

pub returns-then-past-eq0 : goal.returns-then-past-eq0
returns-then-past-eq0 c = no_lead c.args.align c.args.at _ c.bytes_past-past.ensures (omega arith)

pub returns-then-lead-lt-MIN_CHUNK : goal.returns-then-lead-lt-MIN_CHUNK
returns-then-lead-lt-MIN_CHUNK c = far_lead c.args.align c.args.at _ c.bytes_past-past.ensures (λ e. omega (arith, e)) (omega arith)

pub returns-else-lead-lt-MIN_CHUNK : goal.returns-else-lead-lt-MIN_CHUNK
returns-else-lead-lt-MIN_CHUNK c = near_lead c.args.align c.args.at _ c.bytes_past-past.ensures (λ e. omega (arith, e)) (omega arith)
