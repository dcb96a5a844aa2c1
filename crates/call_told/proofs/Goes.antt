-- A call that goes to its end over any places obeys its rules with what it was told.
use Rattle.std.proofs.Common.{◌≡◌, ℕ, Bool, true, false, cond, List, [], Some, None, refl, sym, ap, ◌∙◌, subst}
use Rattle.chunk_tags.specs.declared.tunables.Tunables.{Tunables}
use Rattle.thread_cache.specs.Caches.{CacheValue, has_room}
use Rattle.arena_rules.specs.PlainArena.{Plain}
use Rattle.arena_rules.specs.Rules.{Rules, Stop, Need, Flagged, Pops, Owns, Rooms, Asks, Maps, Reads, Deed, Clears, Gathers, Pushes, Stashes, Draws, Gives, Counts, cache_after_deed}
use Rattle.arena_rules.specs.Walks as walks
use Rattle.arena_rules.specs.Walks.{Walks}
use Rattle.arena_rules.proofs.Walks.{ends_as_walked}
use Rattle.arena_rules.specs.declared.said.Said.{Said}
use Rattle.arena_rules.specs.declared.said.Said.TheVariants as said
use Rattle.consolidate_trim.specs.Outside as outside
use Rattle.consolidate_trim.specs.Outside.{Means, Outside, AnswerGoes, ways}
use Rattle.arena_core.specs.declared.journal.Act.{Act}
use Rattle.arena_core.specs.Journal.{Recorded}
use Rattle.arena_core.specs.Replay.{rules_of}
use Rattle.arena_core.specs.declared.journal.Who.{Who}
use Rattle.arena_choice.specs.Books.{BookValue}
use Rattle.arena_choice.specs.Books as books
use Rattle.arena_holds.specs.BookChanges.{BookChange}
use Rattle.arena_holds.specs.Calls.{Call, Done}
use Rattle.arena_holds.specs.Going as going
use Rattle.arena_holds.specs.Going.{Told, Goes, HoldStep}
use Rattle.arena_holds.specs.Places.{Setting, Standing, KeptArena, with_journal}
use Rattle.call_told.specs.Obeys.{same_bool, room_is, cache_through, PlainHold, Obeys}

same_self : (b : Bool) → same_bool b b ≡ true
same_self true = refl
same_self false = refl

-- an answer leaves the cache, and says of its room what is so
record Answers {P K : Type 0} (o p : Outside P K) (n : Need) (s : Said) : Type 0 where
  room : room_is n s o.cache ≡ true
  cache : p.cache ≡ o.cache

answers : {P K : Type 0} (m : Means P K) (o p : Outside P K) (n : Need) (s : Said) → AnswerGoes m o n s p → Answers o p n s
answers {P = P} {K = K} m o p Flagged (said.Flag b) h = record { room = refl; cache = ap (λ (x : Outside P K). x.cache) h.others }
answers {P = P} {K = K} m o p (Pops bin) (said.Popped at) h = record { room = refl; cache = ap (λ (x : Outside P K). x.cache) h.others }
answers {P = P} {K = K} m o p (Owns bin) (said.Own at) h = record { room = refl; cache = ap (λ (x : Outside P K). x.cache) h.others }
answers {P = P} {K = K} m o p (Rooms size) (said.Room b) h = record { room = ap (λ x. same_bool x (has_room o.cache size)) h.told ∙ same_self (has_room o.cache size); cache = ap (λ (x : Outside P K). x.cache) h.others }
answers {P = P} {K = K} m o p (Asks ask) (said.Asked asked answer) h = record { room = refl; cache = ap (λ (x : Outside P K). x.cache) h.others }
answers {P = P} {K = K} m o p (Maps len) (said.Asked asked answer) h = record { room = refl; cache = ap (λ (x : Outside P K). x.cache) h.others }
answers {P = P} {K = K} m o p (Reads which) (said.Dial n) h = record { room = refl; cache = ap (λ (x : Outside P K). x.cache) h.others }
answers m o p n s h = absurd h

deed_cache : {P K : Type 0} (m : Means P K) (number : ℕ) (o p : Outside P K) (d : Deed) → outside.DeedGoes m number o d p → p.cache ≡ cache_after_deed number d o.cache
deed_cache {P = P} {K = K} m number o p Clears h = ap (λ (x : Outside P K). x.cache) h.others
deed_cache {P = P} {K = K} m number o p (Gathers bin) h = ap (λ (x : Outside P K). x.cache) h.others
deed_cache {P = P} {K = K} m number o p (Pushes bin at) h = ap (λ (x : Outside P K). x.cache) h.others
deed_cache {P = P} {K = K} m number o p (Stashes c) h = ap (λ (x : Outside P K). x.cache) h
deed_cache {P = P} {K = K} m number o p (Draws size) h = ap (λ (x : Outside P K). x.cache) h
deed_cache {P = P} {K = K} m number o p (Gives back) h = ap (λ (x : Outside P K). x.cache) h.others
deed_cache {P = P} {K = K} m number o p (Counts len) h = ap (λ (x : Outside P K). x.cache) h.others

-- the caller's cache behind a walk through a hold's rules is what its answers say
pub walked_cache : {P K A : Type 0} {m : Means P K} {number : ℕ} {t : Tunables} {r q : Rules A} {o z : Outside P K} {ss : List Said} (x : A) →
    Walks t (ways m number) r o ss q z → q ≡ Stop x → cache_through number r ss o.cache ≡ Some z.cache
walked_cache {number = number} {z = z} x walks.here is = ap (λ q. cache_through number q [] z.cache) is
walked_cache {P = P} {K = K} {m = m} {number = number} x (walks.idled {r = r} {o = o} {p = p} {ss = ss} i a) is =
    ap (λ (c : CacheValue). cache_through number r ss c) (sym (ap (λ (y : Outside P K). y.cache) i.others)) ∙ walked_cache {m = m} x a is
walked_cache {P = P} {K = K} {m = m} {number = number} x (walks.done {d = d} {r = r} {o = o} {p = p} {ss = ss} h a) is =
    ap (λ (c : CacheValue). cache_through number r ss c) (sym (deed_cache m number o p d h)) ∙ walked_cache {m = m} x a is
walked_cache {P = P} {K = K} {m = m} {number = number} x (walks.told {n = n} {f = f} {s = s} {o = o} {p = p} {ss = ss} fit h a) is =
    let y : Answers o p n s = answers m o p n s h in
    ap (λ (b : Bool). cond b (cache_through number (f s) ss o.cache) None) y.room
    ∙ (ap (λ (c : CacheValue). cache_through number (f s) ss c) (sym y.cache) ∙ walked_cache {m = m} x a is)

-- What is needed of places: a lent arena has its number, and a book that was found is sound.
pub record Finds {P H D K : Type 0} (s : Setting P H D K) : Type 0 where
  pub number : (p q : P) (a : ℕ) (port : H) (k : KeptArena) → s.ways.lent p a port (Some k) q → k.arena.number ≡ a
  pub books : (p q : P) (change : BookChange) (book : BookValue) → s.ways.booked p change book q → books.IsSound book

held_plain : {P H D K : Type 0} {s : Setting P H D K} {t : Tunables} {who : Who} {a place : ℕ} {act : Act} {cache left : CacheValue} {o p : Standing P K} {before : Plain} {entry : Recorded} (Rest : CacheValue → Type 0) → Finds s →
    HoldStep s t who a act cache o place before entry left p → Rest left → PlainHold t who a act cache before entry Rest
held_plain {s = s} {t = t} {a = a} {act = act} {cache = cache} {left = left} {o = o} {before = before} {entry = entry} Rest f h rest =
    let number : before.number ≡ a = f.number o.places h.lending a h.hold (with_journal before h.journal) h.lent in
    record {
      number = number;
      whose = h.whose;
      acts = h.acts;
      took = h.took;
      ends = ends_as_walked h.walk;
      ended = h.ended;
      left = left;
      through = subst (λ (n : ℕ). cache_through n (rules_of t act before) entry.said cache ≡ Some left) number (walked_cache {m = s.means} h.took h.walk refl);
      rest = rest;
    }

-- A call that goes to its end over places goes so by what it was told alone.
pub goes_obeys : {P H D K A : Type 0} {s : Setting P H D K} {t : Tunables} {who : Who} {c q : Call A} {o z : Standing P K} {told : List Told} (y : A) → Finds s →
    Goes s t who c o told q z → q ≡ Done y → Obeys t who c told y
goes_obeys {t = t} {who = who} y f going.here is = subst (λ q. Obeys t who q [] y) (sym is) refl
goes_obeys y f (going.idled i a) is = goes_obeys y f a is
goes_obeys y f (going.held h a) is = (refl, held_plain _ f h (goes_obeys y f a is))
goes_obeys y f (going.held_free g h a) is = held_plain _ f h (goes_obeys y f a is)
goes_obeys y f (going.opened h a) is = (refl, (record { arena = h.arena; said = _; ends = ends_as_walked h.walk; is = h.entry_is }, goes_obeys y f a is))
goes_obeys y f (going.refused h a) is = (refl, (record { said = h.said; ends = ends_as_walked h.walk }, goes_obeys y f a is))
goes_obeys y f (going.booked h a) is = (refl, (f.books _ _ _ _ h.booked, goes_obeys y f a is))
goes_obeys y f (going.mapped h a) is = (refl, goes_obeys y f a is)
goes_obeys y f (going.pushed h a) is = (refl, goes_obeys y f a is)
goes_obeys y f (going.freed h a) is = (refl, goes_obeys y f a is)
goes_obeys y f (going.unmapped h a) is = (refl, goes_obeys y f a is)
goes_obeys y f (going.remapped h a) is = (refl, (refl, goes_obeys y f a is))
goes_obeys y f (going.posted h a) is = (refl, (refl, goes_obeys y f a is))
goes_obeys y f (going.taken h a) is = (refl, goes_obeys y f a is)
