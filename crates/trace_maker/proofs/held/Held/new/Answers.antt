use Rattle.trace_maker.proofs.HeldLaws.{Knows-none}
use Rattle.trace_maker.proofs.held.Held.new.Goals as goal

pub returns : goal.returns
returns c = rw c.in_ok-unmarked.ensures (Knows-none 4100)
