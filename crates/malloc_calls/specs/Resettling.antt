-- What the parts of a realloc promise (this project's own).
use Rattle.std.specs.Prelude.{◌≡◌, ℕ, ◌≤◌, true}
use Rattle.chunk_tags.specs.declared.block.Block.{Block}
use Rattle.chunk_tags.specs.declared.tunables.Tunables.{Tunables}
use Rattle.address_space.specs.Ports.{Rose}
use Rattle.address_space.specs.Spaces.{space_refusals}
use Rattle.thread_cache.specs.Caches.{CacheValue}
use Rattle.arena_core.specs.Arenas.{need_of}
use Rattle.arena_core.specs.declared.journal.Who.{Who}
use Rattle.block_names.specs.Blocks.{IsHeld}
use Rattle.arena_holds.specs.Calls.{Call}
use Rattle.malloc_calls.specs.Reallocs.{Resettled, IfAnswered}
use Rattle.arena_holds.specs.Going.{Does}
use Rattle.arena_holds.specs.Places.{Setting, Standing, Carries, both_of, in_cache}
use Rattle.malloc_calls.specs.declared.reallocated.Reallocated.{Reallocated}
use Rattle.own_blocks.specs.declared.reply.Reply.TheVariants.{Null}
use Rattle.own_blocks.specs.declared.reply.Why.TheVariants.{Refused}

-- A block in hand was to get nb bytes by these rules: the block that is in hand then is large enough, or the answer is null.
pub record Resettles {P H D K : Type 0} (s : Setting P H D K) (t : Tunables) (who : Who) (rules : Call Resettled) (nb : ℕ) (b : Block) (cache : CacheValue)
    (old : Standing P K) (done : Reallocated) (left : CacheValue) (new : Standing P K) : Type 0 where
  pub does : Does s t who rules old (done, left) new
  pub held : IsHeld done.block
  pub fits : IfAnswered done.reply (need_of done.block.arena nb ≤ done.block.size)
  pub refused : done.reply ≡ Null Refused → Rose (space_refusals s.means.kernel old.space) (space_refusals s.means.kernel new.space)
  pub carries : Carries s.ways true (both_of (λ weigh. weigh b) (in_cache cache)) old
      (both_of (λ weigh. weigh done.block) (in_cache left)) new
