-- Laws of caches: what opening, putting, getting and draining keep. Each cache that a `Cache` stands for is sound.
use Rattle.std.proofs.Common.{◌≡◌, ℕ, ◌+◌, ◌<◌, ◌≤◌, Bool, true, false, ◌&&◌, List, [], ◌∷◌, drop, set, get_or, length, Option, Some, None, sum_by, sym, ap, ◌∙◌, subst, arith, refl, zero, suc}
use Rattle.std.specs.Prelude.{slice_get, IfSome, IsSome, IsTrue, is_some}
use Rattle.std.specs.List.{AllByRecursion, flat_map}
use Rattle.std.proofs.lemmas.Bool.Decides.{nat_tests}
use Rattle.std.proofs.lemmas.List.{length-set}
use Rattle.chunk_tags.specs.Sizes.{IsChunkSize, cache_index_of}
use Rattle.chunk_tags.specs.declared.block.Block.{Block}
use Rattle.list_laws.proofs.Replaced.{at_each-set, get_or-empty}
use Rattle.list_laws.proofs.Sums.{sum_by-flat-less, sum_by-flat-more}
use Rattle.thread_cache.specs.Caches.{CacheValue, Opened, opened_cache, empty_cache_lists, has_room, takes, newest, without_newest, with_newest, blocks_of, next_drained, without_next}
use Rattle.thread_cache.specs.Held.{IsCachedAt, IsListAt, IsSoundCache}
use Rattle.thread_cache.proofs.Draining.{IsFound, first_found}

-- another list at an index, as it may stand there
pub sound_with : (c : Opened) (i : ℕ) (blocks : List Block) → IsSoundCache c → i < 64 → IsListAt c.count i blocks → (c.bins ≤ i → blocks ≡ []) → IsSoundCache (record c { lists = set c.lists i blocks })
sound_with c i blocks sound lt at unused =
    let below : i < length c.lists = omega (arith, lt, sound.width) in
    record {
      count = sound.count;
      bins = sound.bins;
      width = length-set c.lists i blocks ∙ sound.width;
      lists = at_each-set (IsListAt c.count) c.lists i blocks [] below at sound.lists;
      unused = at_each-set (λ k l. c.bins ≤ k → l ≡ []) c.lists i blocks [] below unused sound.unused;
    }

-- ---- opening

pub sound_opened : (structure : Block) (count bins : ℕ) → count ≤ 127 → bins ≤ 64 → IfSome (opened_cache structure count bins) IsSoundCache
unfolding empty_cache_lists
sound_opened structure count bins c b = record {
  count = c;
  bins = b;
  width = refl;
  lists = λ i. subst (IsListAt count i) (sym (get_or-empty 64 i)) (record { short = omega arith; cached = tt });
  unused = λ i past. get_or-empty 64 i;
}

pub none_opened : (structure : Block) (count bins : ℕ) → blocks_of (opened_cache structure count bins) ≡ []
unfolding empty_cache_lists
none_opened structure count bins = refl

-- ---- getting

-- a list without its newest block
pub list_at-rest : (count i : ℕ) (blocks : List Block) → IsListAt count i blocks → IsListAt count i (drop 1 blocks)
list_at-rest count i [] at = at
list_at-rest count i (b ∷ blocks) at = record { short = omega (arith, at.short); cached = at.cached.1 }

-- the newest block of a list is one of it
pub list_at-newest : (count i : ℕ) (blocks : List Block) → IsListAt count i blocks → IfSome (slice_get blocks 0) (IsCachedAt i)
list_at-newest count i [] at = tt
list_at-newest count i (b ∷ blocks) at = at.cached.0

-- a cache that gave a block of the list at an index
pub record Gave (c : CacheValue) (i : ℕ) (b : Block) (now : CacheValue) : Type 0 where
  pub sound : IfSome now IsSoundCache
  pub cached : IsCachedAt i b
  -- the other blocks are those that were there, each as often
  pub same : (g : Block → ℕ) → g b + sum_by g (blocks_of now) ≡ sum_by g (blocks_of c)

pub got : (c : CacheValue) (i : ℕ) (b : Block) → IfSome c IsSoundCache → i < 64 → newest c i ≡ Some b → Gave c i b (without_newest c i)
got None i b sound lt found = absurd cc
got (Some c) i b sound lt found = record {
  sound = sound_with c i (drop 1 (get_or c.lists i [])) sound lt (list_at-rest c.count i (get_or c.lists i []) (sound.lists i)) (λ past. ap (λ (l : List Block). drop 1 l) (sound.unused i past));
  cached = rw found at (list_at-newest c.count i (get_or c.lists i []) (sound.lists i));
  same = λ g. sum_by-flat-less g c.lists i b found;
}

-- ---- putting

-- what room for a size says of its list
pub record HasRoomAt (c : Opened) (s : ℕ) : Type 0 where
  pub used : cache_index_of s < c.bins
  pub short : length (get_or c.lists (cache_index_of s) []) < c.count

pub room_at : (c : Opened) (s : ℕ) → IsTrue (has_room (Some c) s) → HasRoomAt c s
room_at c s room = record { used = grind (arith, nat_tests); short = grind (arith, nat_tests) }

-- a list with one more block in front
pub list_at-more : (c : Opened) (b : Block) → IsSoundCache c → HasRoomAt c b.size → IsChunkSize b.size → IsSome b.arena → IsListAt c.count (cache_index_of b.size) (b ∷ get_or c.lists (cache_index_of b.size) [])
list_at-more c b sound room chunk arena = record {
  short = omega (arith, room.short);
  cached = (record { chunk = chunk; index = refl; arena = arena }, (sound.lists (cache_index_of b.size)).cached);
}

-- a cache that took a block
pub record Took (c : CacheValue) (b : Block) (now : CacheValue) : Type 0 where
  pub sound : IfSome now IsSoundCache
  -- the blocks are that one and those that were there, each as often
  pub same : (g : Block → ℕ) → sum_by g (blocks_of now) ≡ g b + sum_by g (blocks_of c)

put_in : (c : Opened) (b : Block) → IsSoundCache c → HasRoomAt c b.size → IsChunkSize b.size → IsSome b.arena → Took (Some c) b (with_newest (Some c) b)
put_in c b sound room chunk arena =
    let i : ℕ = cache_index_of b.size in
    let lt : i < 64 = omega (arith, room.used, sound.bins) in
    record {
      sound = sound_with c i (b ∷ get_or c.lists i []) sound lt (list_at-more c b sound room chunk arena) (λ past. let no : ⊥ = omega (arith, past, room.used) in absurd no);
      same = λ g. sum_by-flat-more g c.lists i b (omega (arith, lt, sound.width));
    }

pub put : (c : CacheValue) (b : Block) → IfSome c IsSoundCache → IsChunkSize b.size → IsTrue (takes c b) → Took c b (with_newest c b)
put None b sound chunk taken = absurd cc
put (Some c) b sound chunk taken =
    let cases : (room arena : Bool) → has_room (Some c) b.size ≡ room → is_some b.arena ≡ arena → IsTrue (room && arena) → Took (Some c) b (with_newest (Some c) b) = elim [
      | false ↦ λ arena r a h. absurd cc
      | true ↦ elim [
        | false ↦ λ r a h. absurd cc
        | true ↦ λ r a h. put_in c b sound (room_at c b.size r) chunk a
      ]
    ] in
    cases (has_room (Some c) b.size) (is_some b.arena) refl refl taken

-- ---- draining

pub drained : (c : CacheValue) (b : Block) → IfSome c IsSoundCache → next_drained c ≡ Some b → Gave c (cache_index_of b.size) b (without_next c)
drained None b sound found = absurd cc
drained (Some c) b sound found =
    let first : IsFound c.lists b = first_found c.lists b found in
    let gave : Gave (Some c) first.place b (without_newest (Some c) first.place) = got (Some c) first.place b sound (omega (arith, first.lt, sound.width)) first.here in
    rw (gave.cached.index, first.rest) gave
