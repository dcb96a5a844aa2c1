-- What the blocks of a thread weigh, when one of them moves.
use Rattle.std.proofs.Common.{◌≡◌, ℕ, ◌+◌, ◌<◌, Bool, true, false, ◌&&◌, [], ◌∷◌, Option, Some, None, length, get_or, cond, refl, ap, arith}
use Rattle.std.specs.Prelude.{IfSome, IsTrue, is_some, nat_le}
use Rattle.std.proofs.lemmas.List.{length-set}
use Rattle.chunk_tags.specs.Sizes.{max_cached, cache_index_of}
use Rattle.chunk_tags.specs.declared.block.Block.{Block}
use Rattle.list_laws.proofs.Sums.{sum_by-flat-less, sum_by-flat-more}
use Rattle.thread_cache.specs.Caches.{CacheValue, is_open, opened_cache, has_room, takes, newest, without_newest, with_newest}
use Rattle.thread_cache.specs.Held.{IsSoundCache}
use Rattle.thread_cache.proofs.CacheLaws.{none_opened, HasRoomAt, room_at}
use Rattle.block_names.specs.Names.{NameTable, has_place, block_at, with_block, without_block}
use Rattle.own_blocks.specs.Own.{newest_of_size, without_newest_of}
use Rattle.arena_holds.specs.Places.{weight_of, in_cache}
use Rattle.own_blocks.specs.Own.{in_names}
use Rattle.block_names.proofs.Tables.{set_weighs, place_of}

-- ---- names

pub in_names-with : (name : ℕ) (b : Block) (names : NameTable) (weigh : Block → ℕ) → has_place names name ≡ true → block_at names name ≡ None →
    in_names (with_block name b names) weigh ≡ weigh b + in_names names weigh
in_names-with name b names weigh room empty =
    let f : Option Block → ℕ = λ o. weight_of o weigh in
    let z : f (block_at names name) ≡ 0 = ap f empty in
    omega (arith, set_weighs name (Some b) names f room, z)

pub in_names-without : (name : ℕ) (b : Block) (names : NameTable) → block_at names name ≡ Some b → (weigh : Block → ℕ) →
    weigh b + in_names (without_block name names) weigh ≡ in_names names weigh
in_names-without name b names at weigh =
    let f : Option Block → ℕ = λ o. weight_of o weigh in
    let z : f (block_at names name) ≡ weigh b = ap f at in
    omega (arith, set_weighs name None names f (place_of names name b at), z)

-- ---- the cache

pub in_cache-opened : (structure : Block) (count bins : ℕ) (weigh : Block → ℕ) → in_cache (opened_cache structure count bins) weigh ≡ weigh structure
in_cache-opened structure count bins weigh = rw (none_opened structure count bins) (omega arith)

-- a closed cache has none
pub in_cache-closed : (c : CacheValue) (weigh : Block → ℕ) → is_open c ≡ false → in_cache c weigh ≡ 0
in_cache-closed None weigh e = refl
in_cache-closed (Some c) weigh e = absurd cc

in_cache-newest : (c : CacheValue) (i : ℕ) (b : Block) → newest c i ≡ Some b → (weigh : Block → ℕ) →
    weigh b + in_cache (without_newest c i) weigh ≡ in_cache c weigh
in_cache-newest None i b found weigh = absurd cc
in_cache-newest (Some c) i b found weigh = omega (arith, sum_by-flat-less weigh c.lists i b found)

in_cache-if : (v : Bool) (c : CacheValue) (i : ℕ) (b : Block) → cond v (newest c i) None ≡ Some b → (weigh : Block → ℕ) →
    weigh b + in_cache (cond v (without_newest c i) c) weigh ≡ in_cache c weigh
in_cache-if true c i b found weigh = in_cache-newest c i b found weigh
in_cache-if false c i b found weigh = absurd cc

-- the newest block of a size leaves
pub in_cache-taken : (nb : ℕ) (c : CacheValue) (b : Block) → newest_of_size nb c ≡ Some b → (weigh : Block → ℕ) →
    weigh b + in_cache (without_newest_of nb c) weigh ≡ in_cache c weigh
in_cache-taken nb c b found weigh = in_cache-if (nat_le nb max_cached) c (cache_index_of nb) b found weigh

first_true : (x y : Bool) → (x && y) ≡ true → IsTrue x
first_true true y h = refl
first_true false y h = absurd cc

-- a block comes in
pub in_cache-put : (c : CacheValue) (b : Block) → takes c b ≡ true → IfSome (with_newest c b) IsSoundCache → (weigh : Block → ℕ) →
    in_cache (with_newest c b) weigh ≡ weigh b + in_cache c weigh
in_cache-put None b taken sound weigh = absurd cc
in_cache-put (Some c) b taken sound weigh =
    let i : ℕ = cache_index_of b.size in
    let at : HasRoomAt c b.size = room_at c b.size (first_true (has_room (Some c) b.size) (is_some b.arena) taken) in
    let lt : i < length c.lists = omega (arith, at.used, sound.bins, sound.width, length-set c.lists i (b ∷ get_or c.lists i [])) in
    omega (arith, sum_by-flat-more weigh c.lists i b lt)
