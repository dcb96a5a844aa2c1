-- What goes into the caller's cache and comes out of it in a hold.
use Rattle.std.proofs.Common.{◌≡◌, ℕ, ◌+◌, ◌<◌, Bool, true, cond, List, [], ◌∷◌, ◌++◌, length, get_or, Some, None, IfSome, IsTrue, refl, arith}
use Rattle.std.proofs.lemmas.Bool.{and_from}
use Rattle.std.proofs.lemmas.List.{get_or-set_same}
use Rattle.chunk_tags.specs.Sizes.{IsChunkSize, cache_index_of}
use Rattle.chunk_tags.specs.BinOrder.{once}
use Rattle.chunk_tags.specs.declared.tiles.Chunk.{Chunk}
use Rattle.chunk_tags.specs.declared.block.Block.{Block}
use Rattle.chunk_tags.specs.declared.tunables.Tunables.{Tunables}
use Rattle.thread_cache.specs.Caches.{CacheValue, has_room, list_of, newest, with_newest, without_newest}
use Rattle.thread_cache.specs.Held.{IsSoundCache}
use Rattle.thread_cache.proofs.CacheLaws.{HasRoomAt, room_at, Took, put, Gave, got}
use Rattle.arena_rules.specs.declared.said.Said.{Said}
use Rattle.arena_rules.specs.declared.said.Said.TheVariants as told
use Rattle.arena_rules.specs.PlainArena.{Plain}
use Rattle.arena_rules.specs.Rules.{Rules, Does, Stashes, Draws, asks_room, block_of, Rooms, flag_of}
use Rattle.arena_rules.specs.Walks.{Reaches}
use Rattle.arena_rules.proofs.Walks.{reaches_told, reaches_done}
use Rattle.consolidate_trim.specs.Holds.{is_block_of, times_cached, KeepsOthers}
use Rattle.consolidate_trim.proofs.HoldSteps.{block_is, block_other}
use Rattle.arena_growth.specs.Ledgers.{shelf}

-- ---- steps

pub room_reaches : {A : Type 0} {t : Tunables} {n : ℕ} {nb : ℕ} {c : CacheValue} {old : List Said} (a : Plain) (f : Bool → Rules A) (b : Bool) →
    b ≡ has_room c nb → Reaches t (shelf.ways n) (asks_room a nb f) c old (f b) (old ++ told.Room b ∷ []) c
room_reaches {t = t} {n = n} {nb = nb} {c = c} a f b is =
    reaches_told {t = t} {w = shelf.ways n} {a = a} {n = Rooms nb} {f = λ s. f (flag_of s)} {o = c} {z = c} (told.Room b) refl (record { told = is; same = refl })

pub stash_reaches : {A : Type 0} {t : Tunables} {n : ℕ} {k : Chunk} {r : Rules A} {c : CacheValue} {old : List Said} →
    Reaches t (shelf.ways n) (Does (Stashes k) r) c old r old (with_newest c (block_of n k))
stash_reaches = reaches_done refl

pub draw_reaches : {A : Type 0} {t : Tunables} {n nb : ℕ} {r : Rules A} {c : CacheValue} {old : List Said} →
    Reaches t (shelf.ways n) (Does (Draws nb) r) c old r old (without_newest c (cache_index_of nb))
draw_reaches = reaches_done refl

-- ---- counts

abbrev block_weight : ℕ → Chunk → Block → ℕ
block_weight n e b = cond (is_block_of n e b) 1 0

-- a chunk that was put into a cache
pub record IsStashed (n : ℕ) (c : CacheValue) (k : Chunk) (d : CacheValue) : Type 0 where
  pub sound : IfSome d IsSoundCache
  pub times : (e : Chunk) → times_cached n d e ≡ once e k + times_cached n c e
  pub others : KeepsOthers n c d
  pub list : list_of d (cache_index_of k.size) ≡ block_of n k ∷ list_of c (cache_index_of k.size)
  pub short : length (list_of c (cache_index_of k.size)) < 127

pub is_stashed : (n : ℕ) (c : CacheValue) (k : Chunk) → IfSome c IsSoundCache → IsChunkSize k.size → IsTrue (has_room c k.size) → IsStashed n c k (with_newest c (block_of n k))
is_stashed n None k sound chunk room = absurd cc
is_stashed n (Some c) k sound chunk room =
    let at : HasRoomAt c k.size = room_at c k.size room in
    let took : Took (Some c) (block_of n k) (with_newest (Some c) (block_of n k)) = put (Some c) (block_of n k) sound chunk (and_from (has_room (Some c) k.size) true room refl) in
    let lt : cache_index_of k.size < length c.lists = omega (arith, at.used, sound.bins, sound.width) in
    record {
      sound = took.sound;
      times = λ e. omega (arith, took.same (block_weight n e), block_is n e k);
      others = λ m other e. omega (arith, took.same (block_weight m e), block_other n m e k other);
      list = get_or-set_same c.lists (cache_index_of k.size) (block_of n k ∷ get_or c.lists (cache_index_of k.size) []) [] lt;
      short = omega (arith, at.short, sound.count);
    }

-- the newest chunk of a list, taken out of it
pub record IsDrawn (n : ℕ) (c : CacheValue) (k : Chunk) (d : CacheValue) : Type 0 where
  pub times : (e : Chunk) → once e k + times_cached n d e ≡ times_cached n c e
  pub others : KeepsOthers n c d

pub is_drawn : (n : ℕ) (c : CacheValue) (k : Chunk) (i : ℕ) → IfSome c IsSoundCache → i < 64 → newest c i ≡ Some (block_of n k) → IsDrawn n c k (without_newest c i)
is_drawn n c k i sound lt is =
    let gave : Gave c i (block_of n k) (without_newest c i) = got c i (block_of n k) sound lt is in
    record {
      times = λ e. omega (arith, gave.same (block_weight n e), block_is n e k);
      others = λ m other e. omega (arith, gave.same (block_weight m e), block_other n m e k other);
    }
