-- What the blocks of a cache weigh.
use Rattle.std.proofs.Common.{◌≡◌, ℕ, suc, List, [], ◌∷◌, Some, None, get_or, refl, arith}
use Rattle.std.specs.Prelude.{IfSome, IsSome, sum_by}
use Rattle.std.specs.List.{AllByRecursion, flat_map}
use Rattle.std.proofs.lemmas.List.Sums.{sum_by-append, sum_by-cons}
use Rattle.chunk_tags.specs.declared.block.Block.{Block}
use Rattle.thread_cache.specs.Caches.{CacheValue, blocks_of}
use Rattle.thread_cache.specs.Held.{IsCachedAt, IsSoundCache}

-- what weighs nothing in each list weighs nothing in all
lists_nothing : (weigh : Block → ℕ) (lists : List (List Block)) → ((i : ℕ) → sum_by weigh (get_or lists i []) ≡ 0) → sum_by weigh (flat_map (λ blocks. blocks) lists) ≡ 0
lists_nothing weigh [] each = refl
lists_nothing weigh (l ∷ ls) each = omega (arith, sum_by-append weigh l (flat_map (λ blocks. blocks) ls), each 0, lists_nothing weigh ls (λ i. each (suc i)))

list_nothing : (weigh : Block → ℕ) (i : ℕ) (blocks : List Block) → ((b : Block) → IsSome b.arena → weigh b ≡ 0) → AllByRecursion (IsCachedAt i) blocks → sum_by weigh blocks ≡ 0
list_nothing weigh i [] none all = refl
list_nothing weigh i (b ∷ blocks) none all = omega (arith, sum_by-cons weigh b blocks, none b all.0.arena, list_nothing weigh i blocks none all.1)

-- the blocks of a sound cache are chunks of arenas
pub in_lists-nothing : (c : CacheValue) (weigh : Block → ℕ) → IfSome c IsSoundCache → ((b : Block) → IsSome b.arena → weigh b ≡ 0) → sum_by weigh (blocks_of c) ≡ 0
in_lists-nothing None weigh sound none = refl
in_lists-nothing (Some c) weigh sound none =
    lists_nothing weigh c.lists (λ i. list_nothing weigh i (get_or c.lists i []) none (sound.lists i).cached)
