-- What a body does with the fast bins alone is done in a hold, for this crate and those above it.
use Rattle.std.proofs.Common.{ℕ, List, refl, arith}
use Rattle.std.specs.Prelude.{Result, Ok, Err}
use Rattle.chunk_tags.specs.declared.tunables.Tunables.{Tunables}
use Rattle.address_space.specs.declared.space.Space.{Space}
use Rattle.thread_cache.specs.Caches.{CacheValue}
use Rattle.arena_rules.specs.declared.said.Said.{Said}
use Rattle.arena_rules.specs.declared.said.Said.TheVariants as told
use Rattle.arena_rules.specs.PlainArena.{Plain}
use Rattle.arena_rules.specs.Rules.{Rules, Need, Flagged, Pops, Owns, Deed, Clears, Gathers}
use Rattle.arena_rules.specs.Walks as walks
use Rattle.arena_rules.specs.Walks.{Walks, Reaches, StopsShort}
use Rattle.consolidate_trim.specs.Outside.{Means, Outside, AnswerGoes, DeedGoes, ways}
use Rattle.consolidate_trim.specs.Holds.{hold, no_chunk, GivesUp}
use Rattle.consolidate_trim.specs.FastHolds.{FastHold, FastAnswers, FastDoes, fast_ways, Empties}

abbrev with_port : {P K : Type 0} → Outside P K → P → Outside P K
with_port o p = record o { port = p }

goes_lifted : {P K : Type 0} (m : Means P K) (o : Outside P K) (p q : P) (n : Need) (s : Said) → FastAnswers m.fast p n s q → AnswerGoes m (with_port o p) n s (with_port o q)
goes_lifted m o p q Flagged (told.Flag b) h = record { did = h; others = refl }
goes_lifted m o p q (Pops bin) (told.Popped at) h = record { did = h; others = refl }
goes_lifted m o p q (Owns bin) (told.Own at) h = record { did = h; others = refl }
goes_lifted m o p q n s h = absurd h

does_lifted : {P K : Type 0} (m : Means P K) (number : ℕ) (o : Outside P K) (p q : P) (d : Deed) → FastDoes m.fast p d q → DeedGoes m number (with_port o p) d (with_port o q)
does_lifted m number o p q Clears h = record { did = h; others = refl }
does_lifted m number o p q (Gathers bin) h = record { did = h; others = refl }
does_lifted m number o p q d h = absurd h

walks_lifted : {P K A : Type 0} (m : Means P K) (number : ℕ) (o : Outside P K) {t : Tunables} {r q : Rules A} {p z : P} {ss : List Said} →
    Walks t (fast_ways m.fast) r p ss q z → Walks t (ways m number) r (with_port o p) ss q (with_port o z)
walks_lifted m number o walks.here = walks.here
walks_lifted m number o (walks.idled i a) = walks.idled (record { idles = i; others = refl }) (walks_lifted m number o a)
walks_lifted m number o (walks.done {d = d} h a) = walks.done (does_lifted m number o _ _ d h) (walks_lifted m number o a)
walks_lifted m number o (walks.told {n = n} {s = s} f h a) = walks.told f (goes_lifted m o _ _ n s h) (walks_lifted m number o a)

reaches_lifted : {P K A : Type 0} (m : Means P K) (number : ℕ) (o : Outside P K) {t : Tunables} {r q : Rules A} {p z : P} {old new : List Said} →
    Reaches t (fast_ways m.fast) r p old q new z → Reaches t (ways m number) r (with_port o p) old q new (with_port o z)
reaches_lifted m number o a = record { said = a.said; added = a.added; walks = walks_lifted m number o a.walks }

pub lifted : {P K X E : Type 0} (m : Means P K) (t : Tunables) (cache : CacheValue) (space : Space K) (rules : Rules Plain) (h n : FastHold P) (r : Result X E) →
    Empties m.fast rules h r n → GivesUp m t rules no_chunk (hold h.arena h.port cache space h.said) r (hold n.arena n.port cache space n.said)
lifted m t cache space rules h n (Ok x) e = record {
  walk = record { done = reaches_lifted m h.arena.number (record { port = h.port; cache = cache; space = space }) (e.walk t).done; short = tt };
  keeps = record { sound = e.keeps.sound; number = e.keeps.number; windows = e.keeps.windows; placed = e.keeps.placed; cached = λ c. omega arith; others = λ n other c. refl; kept = λ c. omega (arith, e.keeps.kept c) };
  spares = tt;
}
lifted m t cache space rules h n (Err y) e =
    let s : StopsShort t (fast_ways m.fast) rules h.port h.said n.arena n.said n.port = (e.walk t).short in
    record {
      walk = record {
        done = tt;
        short = record { need = s.need; next = s.next; reaches = reaches_lifted m h.arena.number (record { port = h.port; cache = cache; space = space }) s.reaches };
      };
      keeps = tt;
      spares = record { sound = e.keeps.sound; number = e.keeps.number; windows = e.keeps.windows; placed = e.keeps.placed; cached = λ c. omega arith; others = λ n other c. refl; kept = λ c. omega (arith, e.keeps.kept c) };
    }
