-- What the chunks of a fast bin go through that are popped, and put into the cache.
use Rattle.std.proofs.Common.{◌≡◌, ℕ, ◌+◌, ◌-◌, ◌<◌, ◌≤◌, suc, zero, Bool, true, false, cond, List, [], ◌∷◌, ◌++◌, length, Option, Some, None, Result, Ok, Err, IfSome, refl, sym, ap, ◌∙◌, subst, arith}
use Rattle.std.specs.Prelude.{nat_le, if◌then◌else◌}
use Rattle.std.specs.Result.{IsErr}
use Rattle.std.proofs.lemmas.Bool.Decides.{nat_tests}
use Rattle.chunk_tags.specs.BinOrder.{fast_chunk, once}
use Rattle.chunk_tags.specs.Sizes.{IsChunkSize, cache_index_of, fast_index_of, fast_size_at}
use Rattle.chunk_tags.specs.declared.refusals.NoMemory.{NoMemory}
use Rattle.chunk_tags.specs.declared.tiles.Chunk.{Chunk}
use Rattle.chunk_tags.specs.declared.tunables.Tunables.{Tunables}
use Rattle.thread_cache.specs.Caches.{CacheValue, has_room, list_of, with_newest}
use Rattle.thread_cache.specs.Held.{IsSoundCache}
use Rattle.fast_bins.specs.FastPorts as fasts
use Rattle.fast_bins.specs.FastPorts.{Fast, Did}
use Rattle.arena_rules.specs.declared.said.Said.{Said}
use Rattle.arena_rules.specs.declared.said.Said.TheVariants as told
use Rattle.arena_rules.specs.PlainArena.{Plain, IsSound, is_own}
use Rattle.arena_rules.specs.Rules.{Rules, Stop, Misfit, Does, Stashes, Rooms, Pops, asks_room, pops, block_of, flag_of, chunk_told}
use Rattle.arena_rules.specs.Walks.{Ways, Reaches, StopsShort}
use Rattle.arena_rules.specs.Search.{Step, Taken, Onward, fast_taken, stashing_fast, most_stashed}
use Rattle.arena_rules.proofs.Bins.{once_self}
use Rattle.arena_rules.proofs.ChunkMoves.{own_from}
use Rattle.arena_rules.proofs.Walks.{reaches_here, reaches_then, reaches_told, reaches_done, short_here, short_then}
use Rattle.consolidate_trim.specs.Holds.{IsBacked, no_chunk}
use Rattle.arena_growth.specs.declared.step.Step as step_type
use Rattle.arena_growth.specs.declared.step.Step.TheVariants as steps
use Rattle.arena_growth.specs.Ledgers.{near_ledger, Near, near, Stage, stage, Balances}
use Rattle.arena_growth.specs.Steps.{Steps, StashesFast}
use Rattle.arena_growth.proofs.Balance.{balances_here, balances_then, balances_as, loses_from, loses_then, restage, works_ok, works_short}
use Rattle.arena_growth.proofs.Shelving.{IsStashed, is_stashed}

-- ---- steps

abbrev near_ways : {P : Type 0} → Fast P → ℕ → Ways (Near P)
near_ways fast n = (near_ledger fast).ways n

pub near_room : {P A : Type 0} (fast : Fast P) {t : Tunables} {n nb : ℕ} {old : List Said} (o : Near P) (a : Plain) (f : Bool → Rules A) (b : Bool) →
    b ≡ has_room o.cache nb → Reaches t (near_ways fast n) (asks_room a nb f) o old (f b) (old ++ told.Room b ∷ []) o
near_room fast {t = t} {n = n} {nb = nb} o a f b is =
    reaches_told {t = t} {w = near_ways fast n} {a = a} {n = Rooms nb} {f = λ s. f (flag_of s)} {o = o} {z = o} (told.Room b) refl (record { step = record { told = is; same = refl }; port = refl })

pub near_pop : {P A : Type 0} (fast : Fast P) {t : Tunables} {n bin : ℕ} {old : List Said} (p q : P) (c : CacheValue) (a : Plain) (f : Option ℕ → Rules A) (o : Option ℕ) →
    Did fast p (fasts.Pops bin o) q → Reaches t (near_ways fast n) (pops a bin f) (near p c) old (f o) (old ++ told.Popped o ∷ []) (near q c)
near_pop fast {t = t} {n = n} {bin = bin} p q c a f o did =
    reaches_told {t = t} {w = near_ways fast n} {a = a} {n = Pops bin} {f = λ s. f (chunk_told s)} {o = near p c} {z = near q c} (told.Popped o) refl (record { did = did; cache = refl })

pub near_stash : {P A : Type 0} (fast : Fast P) {t : Tunables} {n : ℕ} {k : Chunk} {r : Rules A} {old : List Said} (p : P) (c : CacheValue) →
    Reaches t (near_ways fast n) (Does (Stashes k) r) (near p c) old r old (near p (with_newest c (block_of n k)))
near_stash fast {n = n} p c = reaches_done {w = near_ways fast n} (record { step = refl; port = refl })

-- ---- a chunk that was popped

pub fast_size : (nb : ℕ) → IsChunkSize nb → fast_size_at (fast_index_of nb) ≡ nb
fast_size nb chunk = omega (arith, chunk.0, chunk.1)

abbrev popped : ℕ → ℕ → Chunk
popped nb at = record { at = at; size = nb }

pub is_fast_chunk : (nb at : ℕ) → IsChunkSize nb → fast_chunk (fast_index_of nb) at ≡ popped nb at
is_fast_chunk nb at chunk = ap (λ s. popped s at) (fast_size nb chunk)

-- a port that gave a chunk
pub record HasPopped {P : Type 0} (fast : Fast P) (a : Plain) (p q : P) (c : Chunk) : Type 0 where
  pub own : is_own a c ≡ true
  pub stock : (e : Chunk) → fast.stock q e + once e c ≡ fast.stock p e
  pub backed : IsBacked fast a q no_chunk

pub has_popped : {P : Type 0} (fast : Fast P) (a : Plain) (p q : P) (nb at : ℕ) → IsChunkSize nb → IsBacked fast a p no_chunk → Did fast p (fasts.Pops (fast_index_of nb) (Some at)) q → HasPopped fast a p q (popped nb at)
has_popped fast a p q nb at chunk b did =
    let c : Chunk = popped nb at in
    let stock : (e : Chunk) → fast.stock q e + once e c ≡ fast.stock p e = λ e. omega (arith, did.stock e, ap (once e) (is_fast_chunk nb at chunk)) in
    record {
      own = own_from a c (omega (arith, stock c, b.used c, once_self c));
      stock = stock;
      backed = record { sound = b.sound; used = λ e. omega (arith, stock e, b.used e) };
    }

-- a port that gave none
pub none_popped : {P : Type 0} (fast : Fast P) (a : Plain) (p q : P) (bin : ℕ) (c : CacheValue) (old new : List Said) → IsSound a → Did fast p (fasts.Pops bin None) q → Balances (near_ledger fast) (stage a (near p c) old) no_chunk no_chunk (stage a (near q c) new)
none_popped fast a p q bin c old new s did = record { sound = s; number = refl; windows = refl; placed = λ p. p; cached = λ e. omega arith; others = λ n other e. refl; kept = λ e. omega (arith, did.stock e) }

one_popped : {P : Type 0} (fast : Fast P) (a : Plain) (p q : P) (c : Chunk) (cache : CacheValue) (old new : List Said) → IsSound a → HasPopped fast a p q c → Balances (near_ledger fast) (stage a (near p cache) old) no_chunk (λ e. once e c) (stage a (near q cache) new)
one_popped fast a p q c cache old new s h = record { sound = s; number = refl; windows = refl; placed = λ p. p; cached = λ e. omega arith; others = λ n other e. refl; kept = λ e. omega (arith, h.stock e) }

-- ---- the loop

abbrev found_fast : ℕ → ℕ → ℕ → Chunk → Plain → Option ℕ → Rules Step
found_fast left bin nb first a o = elim o [
  | None ↦ Stop (Taken first a)
  | Some at ↦ if is_own a (fast_chunk bin at) then Does (Stashes (fast_chunk bin at)) (stashing_fast left bin nb first a) else Misfit
]

abbrev turn_fast : ℕ → ℕ → ℕ → Chunk → Plain → Bool → Rules Step
turn_fast left bin nb first a room = if room then pops a bin (found_fast left bin nb first a) else Stop (Taken first a)

-- so far: from the first to now
pub record Stashing {P : Type 0} (fast : Fast P) (nb : ℕ) (a : Plain) (x y : Near P) (old new : List Said) : Type 0 where
  pub balances : Balances (near_ledger fast) (stage a x old) no_chunk no_chunk (stage a y new)
  pub backed : IsBacked fast a y.port no_chunk
  pub left : ℕ
  pub enough : 127 ≤ left + length (list_of y.cache (cache_index_of nb))
  pub reaches : (t : Tunables) (first : Chunk) → Reaches t (near_ways fast a.number) (stashing_fast most_stashed (fast_index_of nb) nb first a) x old (stashing_fast (suc left) (fast_index_of nb) nb first a) new y

pub stashing_starts : {P : Type 0} (fast : Fast P) (nb : ℕ) (a : Plain) (x : Near P) (old : List Said) → IsBacked fast a x.port no_chunk → Stashing fast nb a x x old old
unfolding most_stashed
stashing_starts fast nb a x old b = record {
  balances = balances_here (near_ledger fast) (stage a x old) old b.sound;
  backed = b;
  left = 127;
  enough = omega arith;
  reaches = λ t first. reaches_here;
}

-- no memory for the next answer: whether there is room
pub stashing_short : {P : Type 0} (fast : Fast P) (nb : ℕ) (a : Plain) (x y : Near P) (old new : List Said) (r : Result (Unit {0}) NoMemory) → IsErr r → Stashing fast nb a x y old new → StashesFast fast nb (stage a x old) r (stage a y new)
stashing_short fast nb a x y old new r is so = record { works = λ t first. works_short r is (short_then (so.reaches t first) short_here) (loses_from so.balances) }

room_asked : {P : Type 0} (fast : Fast P) (nb left : ℕ) (a : Plain) (y : Near P) (new : List Said) (t : Tunables) (first : Chunk) (b : Bool) → b ≡ has_room y.cache nb →
    Reaches t (near_ways fast a.number) (stashing_fast (suc left) (fast_index_of nb) nb first a) y new (turn_fast left (fast_index_of nb) nb first a b) (new ++ told.Room b ∷ []) y
room_asked fast nb left a y new t first b is = near_room fast y a (turn_fast left (fast_index_of nb) nb first a) b is

-- or which chunk is popped
pub stashing_short_of_pop : {P : Type 0} (fast : Fast P) (nb : ℕ) (a : Plain) (x y : Near P) (old new : List Said) (r : Result (Unit {0}) NoMemory) → IsErr r → Stashing fast nb a x y old new → true ≡ has_room y.cache nb →
    StashesFast fast nb (stage a x old) r (stage a y (new ++ told.Room true ∷ []))
stashing_short_of_pop fast nb a x y old new r is so room = record {
  works = λ t first. works_short r is (short_then (reaches_then (so.reaches t first) (room_asked fast nb so.left a y new t first true room)) short_here) (loses_from (restage so.balances));
}

-- the cache has no more room
pub stashing_full : {P : Type 0} (fast : Fast P) (nb : ℕ) (a : Plain) (x y : Near P) (old new : List Said) → Stashing fast nb a x y old new → false ≡ has_room y.cache nb →
    StashesFast fast nb (stage a x old) (Ok tt) (stage a y (new ++ told.Room false ∷ []))
stashing_full fast nb a x y old new so room = record {
  works = λ t first. works_ok (reaches_then (so.reaches t first) (room_asked fast nb so.left a y new t first false room)) (restage so.balances);
}

-- the bin has no more chunks
pub stashing_empty : {P : Type 0} (fast : Fast P) (nb : ℕ) (a : Plain) (x y : Near P) (q : P) (old new : List Said) → Stashing fast nb a x y old new → true ≡ has_room y.cache nb → Did fast y.port (fasts.Pops (fast_index_of nb) None) q →
    StashesFast fast nb (stage a x old) (Ok tt) (stage a (near q y.cache) ((new ++ told.Room true ∷ []) ++ told.Popped None ∷ []))
stashing_empty fast nb a x y q old new so room did = record {
  works = λ t first. works_ok
      (reaches_then (reaches_then (so.reaches t first) (room_asked fast nb so.left a y new t first true room)) (near_pop fast y.port q y.cache a (found_fast so.left (fast_index_of nb) nb first a) None did))
      (balances_as (balances_then so.balances (none_popped fast a y.port q (fast_index_of nb) y.cache new ((new ++ told.Room true ∷ []) ++ told.Popped None ∷ []) so.backed.sound did)) (λ e. refl));
}

stash_near : {P : Type 0} (fast : Fast P) (a : Plain) (p : P) (c : Chunk) (cache : CacheValue) (old new : List Said) → IsSound a → IsStashed a.number cache c (with_newest cache (block_of a.number c)) →
    Balances (near_ledger fast) (stage a (near p cache) old) (λ e. once e c) no_chunk (stage a (near p (with_newest cache (block_of a.number c))) new)
stash_near fast a p c cache old new s stashed = record {
  sound = s;
  number = refl;
  windows = refl;
  placed = λ p. p;
  cached = λ e. omega (arith, stashed.times e);
  others = stashed.others;
  kept = λ e. omega (arith, stashed.times e);
}

-- a chunk is popped, and is put into the cache
pub stashing_more : {P : Type 0} (fast : Fast P) (nb at : ℕ) (a : Plain) (x y : Near P) (q : P) (old new : List Said) → IsChunkSize nb → Stashing fast nb a x y old new → IfSome y.cache IsSoundCache → true ≡ has_room y.cache nb → Did fast y.port (fasts.Pops (fast_index_of nb) (Some at)) q →
    Stashing fast nb a x (near q (with_newest y.cache (block_of a.number (popped nb at)))) old ((new ++ told.Room true ∷ []) ++ told.Popped (Some at) ∷ [])
stashing_more fast nb at a x y q old new chunk so sound room did =
    let c : Chunk = popped nb at in
    let h : HasPopped fast a y.port q c = has_popped fast a y.port q nb at chunk so.backed did in
    let stashed : IsStashed a.number y.cache c (with_newest y.cache (block_of a.number c)) = is_stashed a.number y.cache c sound chunk (sym room) in
    let z : Near _ = near q (with_newest y.cache (block_of a.number c)) in
    let said : List Said = (new ++ told.Room true ∷ []) ++ told.Popped (Some at) ∷ [] in
    let bin : ℕ = fast_index_of nb in
    let made : (left : ℕ) → left ≡ so.left → Stashing fast nb a x z old said = elim [
      | zero ↦ λ e. absurd (omega (arith, so.enough, stashed.short, e))
      | suc left ↦ λ e. record {
        balances = balances_as (balances_then (balances_then so.balances (one_popped fast a y.port q c y.cache new said so.backed.sound h)) (stash_near fast a q c y.cache said said so.backed.sound stashed)) (λ e. omega arith);
        backed = h.backed;
        left = left;
        enough = omega (arith, so.enough, ap length stashed.list, e);
        reaches = λ t first.
            let own : is_own a (fast_chunk bin at) ≡ true = ap (is_own a) (is_fast_chunk nb at chunk) ∙ h.own in
            let put : Reaches t (near_ways fast a.number) (found_fast (suc left) bin nb first a (Some at)) (near q y.cache) said (stashing_fast (suc left) bin nb first a) said z =
            subst (λ (b : Bool). Reaches t (near_ways fast a.number) (cond b (Does (Stashes (fast_chunk bin at)) (stashing_fast (suc left) bin nb first a)) Misfit) (near q y.cache) said (stashing_fast (suc left) bin nb first a) said z) (sym own)
            (subst (λ k. Reaches t (near_ways fast a.number) (Does (Stashes k) (stashing_fast (suc left) bin nb first a)) (near q y.cache) said (stashing_fast (suc left) bin nb first a) said z) (sym (is_fast_chunk nb at chunk)) (near_stash fast q y.cache)) in
            let walk : Reaches t (near_ways fast a.number) (stashing_fast (suc (suc left)) bin nb first a) y new (stashing_fast (suc left) bin nb first a) said z =
            reaches_then (room_asked fast nb (suc left) a y new t first true room) (reaches_then (near_pop fast y.port q y.cache a (found_fast (suc left) bin nb first a) (Some at) did) put) in
            reaches_then (subst (λ l. Reaches t (near_ways fast a.number) (stashing_fast most_stashed bin nb first a) x old (stashing_fast (suc l) bin nb first a) new y) (sym e) (so.reaches t first)) walk;
      }
    ] in
    made so.left refl

-- each turn makes the cache's list longer
pub more_short : (n nb at : ℕ) (cache : CacheValue) → IsChunkSize nb → IfSome cache IsSoundCache → true ≡ has_room cache nb →
    128 - length (list_of (with_newest cache (block_of n (popped nb at))) (cache_index_of nb)) < 128 - length (list_of cache (cache_index_of nb))
more_short n nb at cache chunk sound room =
    let stashed : IsStashed n cache (popped nb at) (with_newest cache (block_of n (popped nb at))) = is_stashed n cache (popped nb at) sound chunk (sym room) in
    omega (arith, ap length stashed.list, stashed.short)

-- ---- the first chunk

abbrev first_fast : ℕ → Plain → Option ℕ → Rules Step
first_fast nb a o = elim o [
  | None ↦ Stop (Onward a)
  | Some at ↦ if is_own a (fast_chunk (fast_index_of nb) at) then stashing_fast most_stashed (fast_index_of nb) nb (fast_chunk (fast_index_of nb) at) a else Misfit
]

fast_is : (t : Tunables) (nb : ℕ) (a : Plain) → nb ≤ t.max_fast → fast_taken t nb a ≡ pops a (fast_index_of nb) (first_fast nb a)
fast_is t nb a le =
    let test : nat_le nb t.max_fast ≡ true = grind (arith, nat_tests) in
    ap (λ (b : Bool). cond b (pops a (fast_index_of nb) (first_fast nb a)) (Stop (Onward a))) test

-- not a fast size
pub fast_not : {P : Type 0} (fast : Fast P) (t : Tunables) (nb : ℕ) (x : Stage (Near P)) → IsSound x.arena → t.max_fast < nb → Steps (near_ledger fast) (fast_taken t nb x.arena) x (Ok steps.Onward) x
fast_not fast t nb x s lt =
    let test : nat_le nb t.max_fast ≡ false = grind (arith, nat_tests) in
    let is : fast_taken t nb x.arena ≡ Stop (Onward x.arena) = ap (λ (b : Bool). cond b (pops x.arena (fast_index_of nb) (first_fast nb x.arena)) (Stop (Onward x.arena))) test in
    record { works = λ u. works_ok (subst (λ r. Reaches u (near_ways fast x.arena.number) r x.outside x.said (Stop (Onward x.arena)) x.said x.outside) (sym is) reaches_here) (balances_here (near_ledger fast) x x.said s) }

-- no memory for the answer
pub fast_short : {P : Type 0} (fast : Fast P) (t : Tunables) (nb : ℕ) (x : Stage (Near P)) (r : Result step_type.Step NoMemory) → IsErr r → IsSound x.arena → nb ≤ t.max_fast → Steps (near_ledger fast) (fast_taken t nb x.arena) x r x
fast_short fast t nb x r err s le =
    record { works = λ u. works_short r err (subst (λ q. StopsShort u (near_ways fast x.arena.number) q x.outside x.said x.arena x.said x.outside) (sym (fast_is t nb x.arena le)) short_here) (loses_from (balances_here (near_ledger fast) x x.said s)) }

popped_first : {P : Type 0} (fast : Fast P) (t u : Tunables) (nb : ℕ) (a : Plain) (p q : P) (cache : CacheValue) (old : List Said) (o : Option ℕ) → nb ≤ t.max_fast → Did fast p (fasts.Pops (fast_index_of nb) o) q →
    Reaches u (near_ways fast a.number) (fast_taken t nb a) (near p cache) old (first_fast nb a o) (old ++ told.Popped o ∷ []) (near q cache)
popped_first fast t u nb a p q cache old o le did =
    subst (λ r. Reaches u (near_ways fast a.number) r (near p cache) old (first_fast nb a o) (old ++ told.Popped o ∷ []) (near q cache)) (sym (fast_is t nb a le)) (near_pop fast p q cache a (first_fast nb a) o did)

-- the bin is empty
pub fast_none : {P : Type 0} (fast : Fast P) (t : Tunables) (nb : ℕ) (a : Plain) (p q : P) (cache : CacheValue) (old : List Said) → IsSound a → nb ≤ t.max_fast → Did fast p (fasts.Pops (fast_index_of nb) None) q →
    Steps (near_ledger fast) (fast_taken t nb a) (stage a (near p cache) old) (Ok steps.Onward) (stage a (near q cache) (old ++ told.Popped None ∷ []))
fast_none {P = P} fast t nb a p q cache old s le did = record {
  works = λ u. works_ok (popped_first fast t u nb a p q cache old None le did) (none_popped fast a p q (fast_index_of nb) cache old (old ++ told.Popped None ∷ []) s did);
}

-- what a chunk that was popped goes on with
first_walk : {P : Type 0} (fast : Fast P) (t u : Tunables) (nb at : ℕ) (a : Plain) (p q : P) (cache : CacheValue) (old : List Said) → IsChunkSize nb → nb ≤ t.max_fast → HasPopped fast a p q (popped nb at) → Did fast p (fasts.Pops (fast_index_of nb) (Some at)) q →
    Reaches u (near_ways fast a.number) (fast_taken t nb a) (near p cache) old (stashing_fast most_stashed (fast_index_of nb) nb (popped nb at) a) (old ++ told.Popped (Some at) ∷ []) (near q cache)
first_walk fast t u nb at a p q cache old chunk le h did =
    let own : is_own a (fast_chunk (fast_index_of nb) at) ≡ true = ap (is_own a) (is_fast_chunk nb at chunk) ∙ h.own in
    let is : first_fast nb a (Some at) ≡ stashing_fast most_stashed (fast_index_of nb) nb (popped nb at) a =
    ap (λ (b : Bool). cond b (stashing_fast most_stashed (fast_index_of nb) nb (fast_chunk (fast_index_of nb) at) a) Misfit) own ∙ ap (λ k. stashing_fast most_stashed (fast_index_of nb) nb k a) (is_fast_chunk nb at chunk) in
    subst (λ r. Reaches u (near_ways fast a.number) (fast_taken t nb a) (near p cache) old r (old ++ told.Popped (Some at) ∷ []) (near q cache)) is (popped_first fast t u nb a p q cache old (Some at) le did)

pub fast_found : {P : Type 0} (fast : Fast P) (t : Tunables) (nb at : ℕ) (a : Plain) (p q : P) (cache : CacheValue) (old : List Said) (z : Near P) (said : List Said) → IsChunkSize nb → IsBacked fast a p no_chunk → nb ≤ t.max_fast → Did fast p (fasts.Pops (fast_index_of nb) (Some at)) q →
    StashesFast fast nb (stage a (near q cache) (old ++ told.Popped (Some at) ∷ [])) (Ok tt) (stage a z said) → Steps (near_ledger fast) (fast_taken t nb a) (stage a (near p cache) old) (Ok (steps.Taken (popped nb at))) (stage a z said)
fast_found fast t nb at a p q cache old z said chunk b le did stashes =
    let h : HasPopped fast a p q (popped nb at) = has_popped fast a p q nb at chunk b did in
    record {
      works = λ u.
          let w = stashes.works u (popped nb at) in
          works_ok (reaches_then (first_walk fast t u nb at a p q cache old chunk le h did) w.walk.done)
          (balances_as (balances_then (one_popped fast a p q (popped nb at) cache old (old ++ told.Popped (Some at) ∷ []) b.sound h) w.keeps) (λ e. omega arith));
    }

pub fast_lost : {P : Type 0} (fast : Fast P) (t : Tunables) (nb at : ℕ) (a : Plain) (p q : P) (cache : CacheValue) (old : List Said) (z : Near P) (said : List Said) (r : Result step_type.Step NoMemory) (d : NoMemory) → IsErr r → IsChunkSize nb → IsBacked fast a p no_chunk → nb ≤ t.max_fast → Did fast p (fasts.Pops (fast_index_of nb) (Some at)) q →
    StashesFast fast nb (stage a (near q cache) (old ++ told.Popped (Some at) ∷ [])) (Err d) (stage a z said) → Steps (near_ledger fast) (fast_taken t nb a) (stage a (near p cache) old) r (stage a z said)
fast_lost fast t nb at a p q cache old z said r d err chunk b le did stashes =
    let h : HasPopped fast a p q (popped nb at) = has_popped fast a p q nb at chunk b did in
    record {
      works = λ u.
          let w = stashes.works u (popped nb at) in
          works_short r err (short_then (first_walk fast t u nb at a p q cache old chunk le h did) w.walk.short)
          (loses_then (one_popped fast a p q (popped nb at) cache old (old ++ told.Popped (Some at) ∷ []) b.sound h) w.spares (λ e. omega arith));
    }
