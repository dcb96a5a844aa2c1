-- The steps of the two parts are steps of the port that joins them, and the parts are apart. Other crates may cite this file.
use Rattle.std.proofs.Common.{◌≡◌, IsTrue, sym, ap, subst}
use Rattle.fast_bins.specs.FastPorts.{Fast, FastStep, Did, Idles}
use Rattle.mapped_chunks.specs.DialPorts.{Dialled}
use Rattle.mapped_chunks.specs.Mappings.{IsSteady}
use Rattle.consolidate_trim.specs.Outside.{AreApart}
use Rattle.serial_places.specs.declared.both.Both.{Both}
use Rattle.serial_places.specs.Joined.{joined_fast, joined_dials}

pub did_joined : {B D : Type 0} (fast : Fast B) (p q : Both B D) (s : FastStep) → Did fast p.bins s q.bins → q.dials ≡ p.dials → Did (joined_fast fast) p s q
did_joined fast p q s h e = record { step = (h.step, e); stock = h.stock; room = h.room }

pub idles_joined : {B D : Type 0} (fast : Fast B) (p q : Both B D) → Idles fast p.bins q.bins → q.dials ≡ p.dials → Idles (joined_fast fast) p q
idles_joined fast p q h e = record { idle = (h.idle, e); stock = h.stock; room = h.room }

-- the parts of a joined port are apart, where reading a word changes nothing of what may be counted
pub apart_joined : {B D : Type 0} (fast : Fast B) (dials : Dialled D) → IsSteady dials → AreApart (joined_fast fast) (joined_dials dials)
apart_joined fast dials steady = record {
  stock = λ p q s h e. ap (λ b. fast.stock b e) h.1;
  room = λ p q s h k r. subst (λ b. IsTrue (fast.room b k)) (sym h.1) r;
  steps = λ p q s d h may. subst (λ x. dials.allows x d) (sym h.1) may;
  idles = λ p q d h may. subst (λ x. dials.allows x d) (sym h.1) may;
  reads = λ p q w n d h may. steady.reads p.dials q.dials w n d h.0 may;
}
