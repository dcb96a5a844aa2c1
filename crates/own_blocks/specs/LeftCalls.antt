-- Where a call of a thread is left for want of memory (this project's own).
use Rattle.std.specs.Prelude.{◌≡◌, ℕ, false, List, Some, ◌⊎◌}
use Rattle.chunk_tags.specs.Sizes.{structure_bytes, structure_size}
use Rattle.chunk_tags.specs.declared.block.Block.{Block}
use Rattle.chunk_tags.specs.declared.tunables.Tunables.{Tunables}
use Rattle.thread_cache.specs.Caches.{CacheValue, is_open}
use Rattle.arena_core.specs.declared.journal.Act.TheVariants.{Take}
use Rattle.arena_core.specs.declared.journal.Who.{Who}
use Rattle.arena_holds.specs.Calls.{Call, then_call}
use Rattle.arena_holds.specs.Going.{Told, Goes, Does}
use Rattle.arena_holds.specs.Places.{Setting, Standing}
use Rattle.arena_holds.specs.RunningShort.{RunsShort}
use Rattle.arena_holds.specs.Searching.{search, search_end}
use Rattle.own_blocks.specs.Calls.{opening}

-- A closed cache was to be opened, and a chunk for its structure was found, but memory was short for its lists.
pub record OpensCacheShort {P H D K : Type 0} (s : Setting P H D K) (t : Tunables) (who : Who) (cache : CacheValue)
    (old new : Standing P K) : Type 0 where
  pub place : ℕ
  pub block : Block
  pub left : CacheValue
  pub closed : is_open cache ≡ false
  pub finds : Does s t who (search t who.thread structure_bytes structure_bytes (Take structure_size) cache) old
      (search_end place (Some block) left) new

-- A call goes its way up to such an opening of the thread's cache, and is left there.
pub record RunsUnopened {P H D K A : Type 0} (s : Setting P H D K) (t : Tunables) (who : Who) (c : Call A)
    (old new : Standing P K) : Type 0 where
  pub told : List Told
  pub cache : CacheValue
  pub rest : CacheValue → Call A
  pub at : Standing P K
  pub goes : Goes s t who c old told (then_call (opening t who.thread cache) rest) at
  pub short : OpensCacheShort s t who cache at new

-- A call is left for want of memory: at a step for which it was short, or at the opening of the cache.
abbrev pub IsLeft : {P H D K A : Type 0} → Setting P H D K → Tunables → Who → Call A → Standing P K → Standing P K → Type 0
IsLeft s t who c old new = RunsShort s t who c old new ⊎ RunsUnopened s t who c old new
