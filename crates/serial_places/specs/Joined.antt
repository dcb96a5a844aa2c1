-- The fast bins and the words beside the arenas, as one port (this project's own): a step of one leaves the other.
use Rattle.std.specs.Prelude.{◌≡◌}
use Rattle.fast_bins.specs.FastPorts.{Fast}
use Rattle.mapped_chunks.specs.DialPorts.{Dialled}
use Rattle.serial_places.specs.declared.both.Both.{Both}

abbrev pub joined_fast : {B D : Type 0} → Fast B → Fast (Both B D)
joined_fast fast = record {
  step = λ p s q. fast.step p.bins s q.bins × (q.dials ≡ p.dials);
  idle = λ p q. fast.idle p.bins q.bins × (q.dials ≡ p.dials);
  stock = λ p. fast.stock p.bins;
  room = λ p. fast.room p.bins;
}

abbrev pub joined_dials : {B D : Type 0} → Dialled D → Dialled (Both B D)
joined_dials dials = record {
  step = λ p s q. dials.step p.dials s q.dials × (q.bins ≡ p.bins);
  allows = λ p s. dials.allows p.dials s;
}
