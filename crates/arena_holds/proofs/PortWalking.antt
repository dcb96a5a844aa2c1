-- What a hold does at its port, as steps of that port alone.
use Rattle.std.proofs.Common.{◌≡◌, ℕ, List, ap, subst}
use Rattle.chunk_tags.specs.declared.tunables.Tunables.{Tunables}
use Rattle.arena_rules.specs.declared.said.Said.{Said}
use Rattle.arena_rules.specs.declared.said.Said.TheVariants as told
use Rattle.arena_rules.specs.Rules.{Rules, Need, Flagged, Pops, Owns, Rooms, Asks, Maps, Reads, Deed, Clears, Gathers, Pushes, Stashes, Draws, Gives, Counts}
use Rattle.arena_rules.specs.Walks as walks
use Rattle.arena_rules.specs.Walks.{Walks}
use Rattle.consolidate_trim.specs.Outside as outside
use Rattle.consolidate_trim.specs.Outside.{Means, Outside, AnswerGoes, ways}
use Rattle.arena_holds.specs.Returning as port
use Rattle.arena_holds.specs.Returning.{PortWalks}

-- the port stays
stays_so : {P K : Type 0} (m : Means P K) (o p : Outside P K) (z : P) → p.port ≡ o.port → PortWalks m.fast m.dials p.port z → PortWalks m.fast m.dials o.port z
stays_so {P = P} m o p z same rest = subst (λ (x : P). PortWalks m.fast m.dials x z) same rest

goes_port : {P K : Type 0} (m : Means P K) (o p : Outside P K) (z : P) (n : Need) (s : Said) → AnswerGoes m o n s p → PortWalks m.fast m.dials p.port z → PortWalks m.fast m.dials o.port z
goes_port m o p z Flagged (told.Flag b) h rest = port.port_steps h.did rest
goes_port m o p z (Pops bin) (told.Popped at) h rest = port.port_steps h.did rest
goes_port m o p z (Owns bin) (told.Own at) h rest = port.port_steps h.did rest
goes_port {P = P} {K = K} m o p z (Rooms size) (told.Room b) h rest = stays_so m o p z (ap (λ (x : Outside P K). x.port) h.others) rest
goes_port {P = P} {K = K} m o p z (Asks ask) (told.Asked asked answer) h rest = stays_so m o p z (ap (λ (x : Outside P K). x.port) h.others) rest
goes_port {P = P} {K = K} m o p z (Maps len) (told.Asked asked answer) h rest = stays_so m o p z (ap (λ (x : Outside P K). x.port) h.others) rest
goes_port m o p z (Reads which) (told.Dial n) h rest = port.word_steps h.step rest
goes_port m o p z n s h rest = absurd h

does_port : {P K : Type 0} (m : Means P K) (number : ℕ) (o p : Outside P K) (z : P) (d : Deed) → outside.DeedGoes m number o d p → PortWalks m.fast m.dials p.port z → PortWalks m.fast m.dials o.port z
does_port m number o p z Clears h rest = port.port_steps h.did rest
does_port m number o p z (Gathers bin) h rest = port.port_steps h.did rest
does_port m number o p z (Pushes bin at) h rest = port.port_steps h.did rest
does_port {P = P} {K = K} m number o p z (Stashes c) h rest = stays_so m o p z (ap (λ (x : Outside P K). x.port) h) rest
does_port {P = P} {K = K} m number o p z (Draws size) h rest = stays_so m o p z (ap (λ (x : Outside P K). x.port) h) rest
does_port {P = P} {K = K} m number o p z (Gives back) h rest = stays_so m o p z (ap (λ (x : Outside P K). x.port) h.others) rest
does_port m number o p z (Counts len) h rest = port.word_steps h.step rest

pub port_walks : {P K A : Type 0} {m : Means P K} {number : ℕ} {t : Tunables} {r q : Rules A} {o z : Outside P K} {ss : List Said} →
    Walks t (ways m number) r o ss q z → PortWalks m.fast m.dials o.port z.port
port_walks walks.here = port.port_stays
port_walks {m = m} {z = z} (walks.idled {o = o} {p = p} i a) = port.port_rests i.idles (port_walks {m = m} a)
port_walks {m = m} {number = number} {z = z} (walks.done {d = d} {o = o} {p = p} h a) = does_port m number o p z.port d h (port_walks {m = m} a)
port_walks {m = m} {z = z} (walks.told {n = n} {s = s} {o = o} {p = p} f h a) = goes_port m o p z.port n s h (port_walks {m = m} a)
