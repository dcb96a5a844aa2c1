-- What holds beside a part of a hold holds beside all of it, for this crate and those above it.
use Rattle.std.proofs.Common.{◌≡◌, ℕ, ◌+◌, List, Result, Ok, Err, refl, ap, ◌∙◌, arith}
use Rattle.chunk_tags.specs.declared.tiles.Chunk.{Chunk}
use Rattle.chunk_tags.specs.declared.tunables.Tunables.{Tunables}
use Rattle.address_space.specs.declared.space.Space.{Space}
use Rattle.thread_cache.specs.Caches.{CacheValue, with_newest, without_newest}
use Rattle.fast_bins.specs.FastPorts.{Fast}
use Rattle.arena_rules.specs.declared.said.Said.{Said}
use Rattle.arena_rules.specs.declared.said.Said.TheVariants as told
use Rattle.arena_rules.specs.PlainArena.{Plain}
use Rattle.arena_rules.specs.Rules.{Rules, Need, Flagged, Pops, Owns, Rooms, Deed, Clears, Gathers, Stashes, Draws, block_of}
use Rattle.chunk_tags.specs.Sizes.{cache_index_of}
use Rattle.arena_rules.specs.Walks.{Ways, Walks, here, idled, done, told, Reaches, StopsShort}
use Rattle.consolidate_trim.specs.FastHolds.{FastHold, FastAnswers, FastDoes, Empties}
use Rattle.consolidate_trim.specs.Holds.{Chunks, no_chunk, times_cached, Hold, outside, Carries}
use Rattle.consolidate_trim.specs.Outside.{Means, Outside, AnswerGoes, DeedGoes}
use Rattle.arena_growth.specs.Ledgers.{Ledger, Stage, stage, Balances, Loses, Works, shelf, CacheGoes, CacheDoes, Near, near, NearGoes, NearDoes, near_ledger, fast_ledger, full}

-- one outside as a part of another
pub record Embeds {O Q : Type 0} (v : Ways O) (w : Ways Q) (put : O → Q) : Type 0 where
  pub goes : (o p : O) (n : Need) (s : Said) → v.goes o n s p → w.goes (put o) n s (put p)
  pub does : (o p : O) (d : Deed) → v.does o d p → w.does (put o) d (put p)
  pub idles : (o p : O) → v.idles o p → w.idles (put o) (put p)

walks_put : {O Q A : Type 0} {t : Tunables} {v : Ways O} {w : Ways Q} {put : O → Q} {r q : Rules A} {o z : O} {ss : List Said} → Embeds v w put → Walks t v r o ss q z → Walks t w r (put o) ss q (put z)
walks_put e here = here
walks_put e (idled i a) = idled (e.idles _ _ i) (walks_put e a)
walks_put e (done d a) = done (e.does _ _ _ d) (walks_put e a)
walks_put e (told f g a) = told f (e.goes _ _ _ _ g) (walks_put e a)

-- and its chunks
pub record IsPart {O Q : Type 0} (l : Ledger O) (m : Ledger Q) (put : O → Q) : Type 0 where
  pub embeds : (n : ℕ) → Embeds (l.ways n) (m.ways n) put
  pub stock : (o p : O) (e : Chunk) → m.stock (put o) e + l.stock p e ≡ m.stock (put p) e + l.stock o e
  pub cached : (n : ℕ) (o p : O) (e : Chunk) → times_cached n (m.cache (put o)) e + times_cached n (l.cache p) e ≡ times_cached n (m.cache (put p)) e + times_cached n (l.cache o) e

abbrev at_put : {O Q : Type 0} → (O → Q) → Stage O → Stage Q
at_put put x = stage x.arena (put x.outside) x.said

balances_put : {O Q : Type 0} {l : Ledger O} {m : Ledger Q} {put : O → Q} {x y : Stage O} {given got : Chunks} → IsPart l m put → Balances l x given got y → Balances m (at_put put x) given got (at_put put y)
balances_put {x = x} {y = y} p b = record {
  sound = b.sound;
  number = b.number;
  windows = b.windows;
  placed = b.placed;
  cached = λ e. omega (arith, b.cached e, p.cached x.arena.number x.outside y.outside e);
  others = λ n other e. omega (arith, b.others n other e, p.cached n x.outside y.outside e);
  kept = λ e. omega (arith, b.kept e, p.cached x.arena.number x.outside y.outside e, p.stock x.outside y.outside e);
}

loses_put : {O Q : Type 0} {l : Ledger O} {m : Ledger Q} {put : O → Q} {x y : Stage O} {given : Chunks} → IsPart l m put → Loses l x given y → Loses m (at_put put x) given (at_put put y)
loses_put {x = x} {y = y} p b = record {
  sound = b.sound;
  number = b.number;
  windows = b.windows;
  placed = b.placed;
  cached = λ e. omega (arith, b.cached e, p.cached x.arena.number x.outside y.outside e);
  others = λ n other e. omega (arith, b.others n other e, p.cached n x.outside y.outside e);
  kept = λ e. omega (arith, b.kept e, p.cached x.arena.number x.outside y.outside e, p.stock x.outside y.outside e);
}

reaches_put : {O Q A : Type 0} {t : Tunables} {v : Ways O} {w : Ways Q} {put : O → Q} {r q : Rules A} {o z : O} {old new : List Said} → Embeds v w put → Reaches t v r o old q new z → Reaches t w r (put o) old q new (put z)
reaches_put e a = record { said = a.said; added = a.added; walks = walks_put e a.walks }

short_put : {O Q A : Type 0} {t : Tunables} {v : Ways O} {w : Ways Q} {put : O → Q} {r : Rules A} {o z : O} {old new : List Said} {left : Plain} → Embeds v w put → StopsShort t v r o old left new z → StopsShort t w r (put o) old left new (put z)
short_put e a = record { need = a.need; next = a.next; reaches = reaches_put e a.reaches }

pub works_put : {O Q A X E : Type 0} {l : Ledger O} {m : Ledger Q} {put : O → Q} {t : Tunables} {rules : Rules A} {given : Chunks} {x y : Stage O} {made : X → A} {got : X → Chunks} (r : Result X E) → IsPart l m put →
    Works l t rules given x made got r y → Works m t rules given (at_put put x) made got r (at_put put y)
works_put {x = x} (Ok v) p w = record { walk = record { done = reaches_put (p.embeds x.arena.number) w.walk.done; short = tt }; keeps = balances_put p w.keeps; spares = tt }
works_put {x = x} (Err e) p w = record { walk = record { done = tt; short = short_put (p.embeds x.arena.number) w.walk.short }; keeps = tt; spares = loses_put p w.spares }

-- ---- the parts of a hold

abbrev pub far : {P K : Type 0} → Space K → Near P → Outside P K
far space o = record { port = o.port; cache = o.cache; space = space }

shelf_goes : {P : Type 0} (fast : Fast P) (port : P) (c d : CacheValue) (n : Need) (s : Said) → CacheGoes c n s d → NearGoes fast (near port c) n s (near port d)
shelf_goes fast port c d (Rooms size) (told.Room b) h = record { step = h; port = refl }
shelf_goes fast port c d n s h = absurd h

shelf_does : {P : Type 0} (fast : Fast P) (n : ℕ) (port : P) (c d : CacheValue) (deed : Deed) → CacheDoes n c deed d → NearDoes fast n (near port c) deed (near port d)
shelf_does fast n port c d (Stashes k) h = record { step = h; port = refl }
shelf_does fast n port c d (Draws size) h = record { step = h; port = refl }
shelf_does fast n port c d deed h = absurd h

-- the cache alone, beside any fast bins
pub shelf_part : {P : Type 0} (fast : Fast P) (port : P) → IsPart shelf (near_ledger fast) (λ c. near port c)
shelf_part fast port = record {
  embeds = λ n. record { goes = λ o p need s h. shelf_goes fast port o p need s h; does = λ o p d h. shelf_does fast n port o p d h; idles = λ o p h. absurd h };
  stock = λ o p e. refl;
  cached = λ n o p e. omega arith;
}

near_goes : {P K : Type 0} (m : Means P K) (space : Space K) (o p : Near P) (n : Need) (s : Said) → NearGoes m.fast o n s p → AnswerGoes m (far space o) n s (far space p)
near_goes m space o p Flagged (told.Flag b) h = record { did = h.did; others = ap (λ c. far space (near p.port c)) h.cache }
near_goes m space o p (Pops bin) (told.Popped at) h = record { did = h.did; others = ap (λ c. far space (near p.port c)) h.cache }
near_goes m space o p (Owns bin) (told.Own at) h = record { did = h.did; others = ap (λ c. far space (near p.port c)) h.cache }
near_goes m space o p (Rooms size) (told.Room b) h = record { told = h.step.told; others = ap (λ c. far space (near p.port c)) h.step.same ∙ ap (λ q. far space (near q o.cache)) h.port }
near_goes m space o p n s h = absurd h

near_does : {P K : Type 0} (m : Means P K) (n : ℕ) (space : Space K) (o p : Near P) (d : Deed) → NearDoes m.fast n o d p → DeedGoes m n (far space o) d (far space p)
near_does m n space o p Clears h = record { did = h.did; others = ap (λ c. far space (near p.port c)) h.cache }
near_does m n space o p (Gathers bin) h = record { did = h.did; others = ap (λ c. far space (near p.port c)) h.cache }
near_does m n space o p (Stashes k) h = ap (λ c. far space (near p.port c)) h.step ∙ ap (λ q. far space (near q (with_newest o.cache (block_of n k)))) h.port
near_does m n space o p (Draws size) h = ap (λ c. far space (near p.port c)) h.step ∙ ap (λ q. far space (near q (without_newest o.cache (cache_index_of size)))) h.port
near_does m n space o p d h = absurd h

-- fast bins and cache, beside any address space
pub near_part : {P K : Type 0} (m : Means P K) (space : Space K) → IsPart (near_ledger m.fast) (full m) (far space)
near_part m space = record {
  embeds = λ n. record {
    goes = λ o p need s h. near_goes m space o p need s h;
    does = λ o p d h. near_does m n space o p d h;
    idles = λ o p h. record { idles = h.idles; others = ap (λ c. far space (near p.port c)) h.cache };
  };
  stock = λ o p e. omega arith;
  cached = λ n o p e. omega arith;
}

fast_goes : {P : Type 0} (fast : Fast P) (c : CacheValue) (o p : P) (n : Need) (s : Said) → FastAnswers fast o n s p → NearGoes fast (near o c) n s (near p c)
fast_goes fast c o p Flagged (told.Flag b) h = record { did = h; cache = refl }
fast_goes fast c o p (Pops bin) (told.Popped at) h = record { did = h; cache = refl }
fast_goes fast c o p (Owns bin) (told.Own at) h = record { did = h; cache = refl }
fast_goes fast c o p n s h = absurd h

fast_does : {P : Type 0} (fast : Fast P) (n : ℕ) (c : CacheValue) (o p : P) (d : Deed) → FastDoes fast o d p → NearDoes fast n (near o c) d (near p c)
fast_does fast n c o p Clears h = record { did = h; cache = refl }
fast_does fast n c o p (Gathers bin) h = record { did = h; cache = refl }
fast_does fast n c o p d h = absurd h

-- the fast bins alone, beside any cache
pub fast_part : {P : Type 0} (fast : Fast P) (cache : CacheValue) → IsPart (fast_ledger fast) (near_ledger fast) (λ p. near p cache)
fast_part fast cache = record {
  embeds = λ n. record {
    goes = λ o p need s h. fast_goes fast cache o p need s h;
    does = λ o p d h. fast_does fast n cache o p d h;
    idles = λ o p h. record { idles = h; cache = refl };
  };
  stock = λ o p e. omega arith;
  cached = λ n o p e. omega arith;
}

-- ---- what consolidate_trim's bodies promise

pub works_empties : {P X E : Type 0} {fast : Fast P} {rules : Rules Plain} {h n : FastHold P} {r : Result X E} (t : Tunables) → Empties fast rules h r n →
    Works (fast_ledger fast) t rules no_chunk (stage h.arena h.port h.said) (λ _. n.arena) (λ _. no_chunk) r (stage n.arena n.port n.said)
works_empties {r = Ok x} t e = record {
  walk = e.walk t;
  keeps = record { sound = e.keeps.sound; number = e.keeps.number; windows = e.keeps.windows; placed = e.keeps.placed; cached = λ c. omega arith; others = λ n other c. refl; kept = λ c. omega (arith, e.keeps.kept c) };
  spares = tt;
}
works_empties {r = Err y} t e = record {
  walk = e.walk t;
  keeps = tt;
  spares = record { sound = e.keeps.sound; number = e.keeps.number; windows = e.keeps.windows; placed = e.keeps.placed; cached = λ c. omega arith; others = λ n other c. refl; kept = λ c. omega (arith, e.keeps.kept c) };
}

abbrev stage_of : {P K : Type 0} → Hold P K → Stage (Outside P K)
stage_of h = stage h.arena (outside h) h.said

pub works_carries : {P K A X E : Type 0} {m : Means P K} {t : Tunables} {rules : Rules A} {given : Chunks} {h n : Hold P K} {made : X → A} {got : X → Chunks} {r : Result X E} →
    Carries m t rules given h made got r n → Works (full m) t rules given (stage_of h) made got r (stage_of n)
works_carries {r = Ok x} c = record {
  walk = c.walk;
  keeps = record { sound = c.keeps.sound; number = c.keeps.number; windows = c.keeps.windows; placed = c.keeps.placed; cached = c.keeps.cached; others = c.keeps.others; kept = c.keeps.kept };
  spares = tt;
}
works_carries {r = Err e} c = record {
  walk = c.walk;
  keeps = tt;
  spares = record { sound = c.spares.sound; number = c.spares.number; windows = c.spares.windows; placed = c.spares.placed; cached = c.spares.cached; others = c.spares.others; kept = c.spares.kept };
}
