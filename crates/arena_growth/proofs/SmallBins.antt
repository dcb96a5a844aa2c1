-- What the chunks of a small bin go through that are put into the cache.
use Rattle.std.proofs.Common.{◌≡◌, ℕ, ◌+◌, ◌-◌, ◌<◌, ◌≤◌, suc, zero, Bool, true, false, List, [], ◌∷◌, ◌++◌, length, Option, Some, None, Result, Ok, Err, IfSome, IsTrue, refl, sym, ap, subst, arith}
use Rattle.std.specs.Prelude.{if◌then◌else◌}
use Rattle.std.specs.Result.{IsErr}
use Rattle.std.proofs.lemmas.Bool.Decides.{nat_tests}
use Rattle.chunk_tags.specs.Sizes.{IsChunkSize, cache_index_of, small_index_of, bin_of, is_small_size}
use Rattle.chunk_tags.specs.BinOrder.{oldest_of, once}
use Rattle.chunk_tags.specs.declared.refusals.NoMemory.{NoMemory}
use Rattle.chunk_tags.specs.declared.tiles.Chunk.{Chunk}
use Rattle.chunk_tags.specs.declared.tunables.Tunables.{Tunables}
use Rattle.thread_cache.specs.Caches.{CacheValue, has_room, list_of, with_newest}
use Rattle.thread_cache.specs.Held.{IsSoundCache}
use Rattle.arena_rules.specs.declared.said.Said.{Said}
use Rattle.arena_rules.specs.declared.said.Said.TheVariants as told
use Rattle.arena_rules.specs.PlainArena.{Plain, IsSound, bin_at, times_listed, BelongsIn}
use Rattle.arena_rules.specs.Moves.{claimed}
use Rattle.arena_rules.specs.Rules.{Rules, Stop, Does, Stashes, block_of}
use Rattle.arena_rules.specs.Walks.{Reaches}
use Rattle.arena_rules.specs.Search.{Step, Taken, Onward, small_taken, stashing_small, most_stashed}
use Rattle.arena_rules.proofs.Moved.{Moved, none, nothing}
use Rattle.arena_rules.proofs.MainPlaces.{placed_still}
use Rattle.arena_rules.proofs.ChunkMoves.{claimed_moved}
use Rattle.arena_rules.proofs.Carving.{oldest_in_bin}
use Rattle.arena_rules.proofs.Walks.{reaches_here, reaches_then, short_here, short_then}
use Rattle.consolidate_trim.specs.Holds.{no_chunk}
use Rattle.arena_growth.specs.Ledgers.{shelf, Stage, stage, Balances}
use Rattle.arena_growth.specs.declared.step.Step as steps_type
use Rattle.arena_growth.specs.declared.step.Step.TheVariants as steps
use Rattle.arena_growth.specs.Steps.{Steps, StashesSmall}
use Rattle.arena_growth.proofs.Balance.{balances_here, balances_moved, balances_then, balances_as, loses_from, loses_then, restage, works_ok, works_short}
use Rattle.arena_growth.proofs.Chosen.{all_oldest}
use Rattle.arena_growth.proofs.Shelving.{room_reaches, stash_reaches, IsStashed, is_stashed}

-- ---- the chunks of a small bin have its size

small_size : (s nb : ℕ) → IsChunkSize s → IsChunkSize nb → IsTrue (is_small_size nb) → bin_of s ≡ small_index_of nb → s ≡ nb
small_size s nb chunk chunk' small same = grind (arith, nat_tests)

-- the chunk that has been in a small bin longest
pub record IsOldestSmall (a : Plain) (nb : ℕ) (c : Chunk) : Type 0 where
  pub listed : 0 < times_listed c a
  pub size : c.size ≡ nb
  pub chunk : IsChunkSize c.size

pub oldest_small : (a : Plain) (nb : ℕ) (c : Chunk) → IsSound a → IsChunkSize nb → IsTrue (is_small_size nb) → oldest_of (bin_at a (small_index_of nb)) ≡ Some c → IsOldestSmall a nb c
oldest_small a nb c s chunk small e =
    let listed : 0 < times_listed c a = oldest_in_bin a (small_index_of nb) c e in
    let size : IsChunkSize c.size = (claimed_moved a c s listed).size in
    let some : 2 ≤ small_index_of nb = omega (arith, chunk.0) in
    let own : bin_of c.size ≡ small_index_of nb = all_oldest (BelongsIn (small_index_of nb)) c (bin_at a (small_index_of nb)) (s.listed.bins (small_index_of nb)).belong e (λ one. omega (arith, some, one)) in
    record { listed = listed; size = small_size c.size nb size chunk small own; chunk = size }

-- ---- the loop

-- so far: from the first to now
pub record Stashing (nb : ℕ) (x y : Stage CacheValue) : Type 0 where
  pub balances : Balances shelf x no_chunk no_chunk y
  pub left : ℕ
  pub enough : 127 ≤ left + length (list_of y.outside (cache_index_of nb))
  pub reaches : (t : Tunables) (first : Chunk) → Reaches t (shelf.ways x.arena.number) (stashing_small most_stashed nb first x.arena) x.outside x.said (stashing_small (suc left) nb first y.arena) y.said y.outside

pub stashing_starts : (nb : ℕ) (x : Stage CacheValue) → IsSound x.arena → Stashing nb x x
unfolding most_stashed
stashing_starts nb x s = record {
  balances = balances_here shelf x x.said s;
  left = 127;
  enough = omega arith;
  reaches = λ t first. reaches_here;
}

pub stash_balances : (a : Plain) (c : Chunk) (cache : CacheValue) (said said' : List Said) → IsSound a → 0 < times_listed c a → IsStashed a.number cache c (with_newest cache (block_of a.number c)) →
    Balances shelf (stage a cache said) no_chunk no_chunk (stage (claimed a c) (with_newest cache (block_of a.number c)) said')
stash_balances a c cache said said' s some stashed =
    let m : Moved a (claimed a c) none (λ e. once e c) nothing nothing = (claimed_moved a c s some).moved in
    record {
      sound = m.sound;
      number = refl;
      windows = refl;
      placed = placed_still a (claimed a c) none (λ e. once e c) m refl;
      cached = λ e. omega (arith, stashed.times e);
      others = stashed.others;
      kept = λ e. omega (arith, stashed.times e, m.used e);
    }

more_walk : (n left nb : ℕ) (t : Tunables) (first c : Chunk) (a : Plain) (cache : CacheValue) (said : List Said) → oldest_of (bin_at a (small_index_of nb)) ≡ Some c → true ≡ has_room cache nb →
    Reaches t (shelf.ways n) (stashing_small (suc left) nb first a) cache said (stashing_small left nb first (claimed a c)) (said ++ told.Room true ∷ []) (with_newest cache (block_of n c))
more_walk n left nb t first c a cache said oldest room =
    let rest : Bool → Rules Step = λ room.
    if room then elim (oldest_of (bin_at a (small_index_of nb))) [
      | None ↦ Stop (Taken first a)
      | Some c ↦ Does (Stashes c) (stashing_small left nb first (claimed a c))
    ]
    else Stop (Taken first a) in
    let found : (o : Option Chunk) → o ≡ Some c → Reaches t (shelf.ways n) (elim o [ None ↦ Stop (Taken first a) | Some c ↦ Does (Stashes c) (stashing_small left nb first (claimed a c)) ]) cache (said ++ told.Room true ∷ []) (stashing_small left nb first (claimed a c)) (said ++ told.Room true ∷ []) (with_newest cache (block_of n c)) = elim [
      | None ↦ λ e. absurd cc
      | Some d ↦ λ e. let same : d ≡ c = cc in subst (λ d. Reaches t (shelf.ways n) (Does (Stashes d) (stashing_small left nb first (claimed a d))) cache (said ++ told.Room true ∷ []) (stashing_small left nb first (claimed a c)) (said ++ told.Room true ∷ []) (with_newest cache (block_of n c))) (sym same) stash_reaches
    ] in
    reaches_then (room_reaches a rest true room) (found (oldest_of (bin_at a (small_index_of nb))) oldest)

pub stashing_more : (nb : ℕ) (x y : Stage CacheValue) (c : Chunk) → Stashing nb x y → IsChunkSize nb → IsTrue (is_small_size nb) → oldest_of (bin_at y.arena (small_index_of nb)) ≡ Some c → IfSome y.outside IsSoundCache → true ≡ has_room y.outside nb →
    Stashing nb x (stage (claimed y.arena c) (with_newest y.outside (block_of y.arena.number c)) (y.said ++ told.Room true ∷ []))
stashing_more nb x y c so chunk small oldest sound room =
    let n : ℕ = y.arena.number in
    let o : IsOldestSmall y.arena nb c = oldest_small y.arena nb c so.balances.sound chunk small oldest in
    let stashed : IsStashed n y.outside c (with_newest y.outside (block_of n c)) = is_stashed n y.outside c sound o.chunk (rw o.size (sym room)) in
    let list : list_of (with_newest y.outside (block_of n c)) (cache_index_of nb) ≡ block_of n c ∷ list_of y.outside (cache_index_of nb) = subst (λ s. list_of (with_newest y.outside (block_of n c)) (cache_index_of s) ≡ block_of n c ∷ list_of y.outside (cache_index_of s)) o.size stashed.list in
    let short : length (list_of y.outside (cache_index_of nb)) < 127 = subst (λ s. length (list_of y.outside (cache_index_of s)) < 127) o.size stashed.short in
    let z : Stage CacheValue = stage (claimed y.arena c) (with_newest y.outside (block_of n c)) (y.said ++ told.Room true ∷ []) in
    let made : (left : ℕ) → left ≡ so.left → Stashing nb x z = elim [
      | zero ↦ λ e. absurd (omega (arith, so.enough, short, e))
      | suc left ↦ λ e. record {
        balances = balances_as (balances_then so.balances (stash_balances y.arena c y.outside y.said z.said so.balances.sound o.listed stashed)) (λ e. refl);
        left = left;
        enough = omega (arith, so.enough, ap length list, e);
        reaches = λ t first.
            let walk : (k : ℕ) → n ≡ k → Reaches t (shelf.ways k) (stashing_small (suc (suc left)) nb first y.arena) y.outside y.said (stashing_small (suc left) nb first (claimed y.arena c)) z.said z.outside = λ k same. subst (λ k. Reaches t (shelf.ways k) (stashing_small (suc (suc left)) nb first y.arena) y.outside y.said (stashing_small (suc left) nb first (claimed y.arena c)) z.said z.outside) same (more_walk n (suc left) nb t first c y.arena y.outside y.said oldest room) in
            reaches_then (subst (λ l. Reaches t (shelf.ways x.arena.number) (stashing_small most_stashed nb first x.arena) x.outside x.said (stashing_small (suc l) nb first y.arena) y.said y.outside) (sym e) (so.reaches t first)) (walk x.arena.number so.balances.number);
      }
    ] in
    made so.left refl

-- no memory for the next answer
pub stashing_short : (nb : ℕ) (x y : Stage CacheValue) (r : Result (Unit {0}) NoMemory) → IsErr r → Stashing nb x y → StashesSmall nb x r y
stashing_short nb x y r is so = record { works = λ t first. works_short r is (short_then (so.reaches t first) short_here) (loses_from so.balances) }

-- the cache has no more room
pub stashing_full : (nb : ℕ) (x y : Stage CacheValue) → Stashing nb x y → false ≡ has_room y.outside nb → StashesSmall nb x (Ok tt) (stage y.arena y.outside (y.said ++ told.Room false ∷ []))
stashing_full nb x y so room =
    let n : ℕ = x.arena.number in
    record {
      works = λ t first.
          let rest : Bool → Rules Step = λ room.
          if room then elim (oldest_of (bin_at y.arena (small_index_of nb))) [
            | None ↦ Stop (Taken first y.arena)
            | Some c ↦ Does (Stashes c) (stashing_small so.left nb first (claimed y.arena c))
          ]
          else Stop (Taken first y.arena) in
          works_ok (reaches_then (so.reaches t first) (room_reaches y.arena rest false room)) (restage so.balances);
    }

-- the bin has no more chunks
pub stashing_empty : (nb : ℕ) (x y : Stage CacheValue) → Stashing nb x y → true ≡ has_room y.outside nb → None ≡ oldest_of (bin_at y.arena (small_index_of nb)) →
    StashesSmall nb x (Ok tt) (stage y.arena y.outside (y.said ++ told.Room true ∷ []))
stashing_empty nb x y so room gone =
    let n : ℕ = x.arena.number in
    let said : List Said = y.said ++ told.Room true ∷ [] in
    record {
      works = λ t first.
          let rest : Option Chunk → Rules Step = λ o. elim o [
            | None ↦ Stop (Taken first y.arena)
            | Some c ↦ Does (Stashes c) (stashing_small so.left nb first (claimed y.arena c))
          ] in
          let ends : (o : Option Chunk) → None ≡ o → Reaches t (shelf.ways n) (rest o) y.outside said (Stop (Taken first y.arena)) said y.outside = elim [
            | None ↦ λ e. reaches_here
            | Some d ↦ λ e. absurd cc
          ] in
          let last : Option Chunk = oldest_of (bin_at y.arena (small_index_of nb)) in
          let asked = room_reaches {t = t} {n = n} {nb = nb} {c = y.outside} {old = y.said} y.arena (λ room. if room then rest last else Stop (Taken first y.arena)) true room in
          works_ok (reaches_then (so.reaches t first) (reaches_then asked (ends last gone))) (restage so.balances);
    }

-- each turn makes the cache's list longer
pub more_short : (a : Plain) (nb : ℕ) (c : Chunk) (cache : CacheValue) → IsSound a → IsChunkSize nb → IsTrue (is_small_size nb) → oldest_of (bin_at a (small_index_of nb)) ≡ Some c → IfSome cache IsSoundCache → true ≡ has_room cache nb →
    128 - length (list_of (with_newest cache (block_of a.number c)) (cache_index_of nb)) < 128 - length (list_of cache (cache_index_of nb))
more_short a nb c cache s chunk small oldest sound room =
    let o : IsOldestSmall a nb c = oldest_small a nb c s chunk small oldest in
    let stashed : IsStashed a.number cache c (with_newest cache (block_of a.number c)) = is_stashed a.number cache c sound o.chunk (rw o.size (sym room)) in
    let list : list_of (with_newest cache (block_of a.number c)) (cache_index_of nb) ≡ block_of a.number c ∷ list_of cache (cache_index_of nb) = subst (λ s. list_of (with_newest cache (block_of a.number c)) (cache_index_of s) ≡ block_of a.number c ∷ list_of cache (cache_index_of s)) o.size stashed.list in
    let short : length (list_of cache (cache_index_of nb)) < 127 = subst (λ s. length (list_of cache (cache_index_of s)) < 127) o.size stashed.short in
    omega (arith, ap length list, short)

-- ---- the first chunk, which is taken

claimed_stage : (a : Plain) (c : Chunk) (cache : CacheValue) (said : List Said) → IsSound a → 0 < times_listed c a → Balances shelf (stage a cache said) no_chunk (λ e. once e c) (stage (claimed a c) cache said)
claimed_stage a c cache said s some = balances_moved shelf (stage a cache said) (claimed a c) (λ e. once e c) said (claimed_moved a c s some).moved refl

taken_found : (nb : ℕ) (a : Plain) (c : Chunk) → IsTrue (is_small_size nb) → oldest_of (bin_at a (small_index_of nb)) ≡ Some c → small_taken nb a ≡ stashing_small most_stashed nb c (claimed a c)
taken_found nb a c small e = rw (small, e) refl

pub small_not : (nb : ℕ) (a : Plain) → is_small_size nb ≡ false → small_taken nb a ≡ Stop (Onward a)
small_not nb a large = rw large refl

pub small_none : (nb : ℕ) (a : Plain) → IsTrue (is_small_size nb) → oldest_of (bin_at a (small_index_of nb)) ≡ None → small_taken nb a ≡ Stop (Onward a)
small_none nb a small e = rw (small, e) refl

-- not a small size, or none in its bin
pub small_onward : (nb : ℕ) (x : Stage CacheValue) → IsSound x.arena → small_taken nb x.arena ≡ Stop (Onward x.arena) → Steps shelf (small_taken nb x.arena) x (Ok steps.Onward) x
small_onward nb x s e = record {
  works = λ t. works_ok (subst (λ r. Reaches t (shelf.ways x.arena.number) (small_taken nb x.arena) x.outside x.said r x.said x.outside) e reaches_here) (balances_here shelf x x.said s);
}

-- further ones were stashed
pub small_found : (nb : ℕ) (x : Stage CacheValue) (c : Chunk) (z : Stage CacheValue) → IsSound x.arena → IsTrue (is_small_size nb) → oldest_of (bin_at x.arena (small_index_of nb)) ≡ Some c →
    StashesSmall nb (stage (claimed x.arena c) x.outside x.said) (Ok tt) z → Steps shelf (small_taken nb x.arena) x (Ok (steps.Taken c)) z
small_found nb x c z s small e stashes =
    let b : Balances shelf x no_chunk (λ e. once e c) (stage (claimed x.arena c) x.outside x.said) = claimed_stage x.arena c x.outside x.said s (oldest_in_bin x.arena (small_index_of nb) c e) in
    record {
      works = λ t.
          let w = stashes.works t c in
          works_ok (rw (taken_found nb x.arena c small e) w.walk.done) (balances_as (balances_then b w.keeps) (λ e. omega arith));
    }

pub small_short : (nb : ℕ) (x : Stage CacheValue) (c : Chunk) (z : Stage CacheValue) (r : Result steps_type.Step NoMemory) (d : NoMemory) → IsErr r → IsSound x.arena → IsTrue (is_small_size nb) → oldest_of (bin_at x.arena (small_index_of nb)) ≡ Some c →
    StashesSmall nb (stage (claimed x.arena c) x.outside x.said) (Err d) z → Steps shelf (small_taken nb x.arena) x r z
small_short nb x c z r d is s small e stashes =
    let b : Balances shelf x no_chunk (λ e. once e c) (stage (claimed x.arena c) x.outside x.said) = claimed_stage x.arena c x.outside x.said s (oldest_in_bin x.arena (small_index_of nb) c e) in
    record {
      works = λ t.
          let w = stashes.works t c in
          works_short r is (rw (taken_found nb x.arena c small e) w.walk.short) (loses_then b w.spares (λ e. omega arith));
    }
