use Rattle.std.proofs.Common.{◌≡◌, ℕ, true, false, cond, List, Some, None, refl}
use Rattle.std.specs.Prelude.{nat_le}
use Rattle.chunk_tags.specs.Sizes.{max_cached, cache_index_of}
use Rattle.chunk_tags.specs.declared.block.Block.{Block}
use Rattle.thread_cache.specs.Caches.{CacheValue, is_open, structure_of, with_list, with_newest, without_newest}
use Rattle.own_blocks.specs.Own.{without_newest_of}

list_same : (c : CacheValue) (i : ℕ) (blocks : List Block) → structure_of (with_list c i blocks) ≡ structure_of c
list_same None i blocks = refl
list_same (Some c) i blocks = refl

-- a block that is put, or got, leaves the structure
pub put_same : (c : CacheValue) (b : Block) → structure_of (with_newest c b) ≡ structure_of c
put_same c b = list_same c _ _

pub got_same : (nb : ℕ) (c : CacheValue) → structure_of (without_newest_of nb c) ≡ structure_of c
got_same nb c =
    elim (nat_le nb max_cached) as (λ v. structure_of (cond v (without_newest c (cache_index_of nb)) c) ≡ structure_of c)
    [ true ↦ list_same c _ _ | false ↦ refl ]

-- a cache of the same structure is as open, and closed it is the same
pub open_still : (c d : CacheValue) → structure_of d ≡ structure_of c → is_open c ≡ true → is_open d ≡ true
open_still None d e was = absurd cc
open_still (Some c) None e was = absurd cc
open_still (Some c) (Some d) e was = refl

pub closed_still : (c d : CacheValue) → structure_of d ≡ structure_of c → is_open c ≡ false → d ≡ c
closed_still None None e was = refl
closed_still None (Some d) e was = absurd cc
closed_still (Some c) d e was = absurd cc
