-- What the parts of a call promise that get a block for a request, or release one (this project's own).
use Rattle.std.specs.Prelude.{◌≡◌, ℕ, ◌≤◌, true, false, Option, None, IfSome, option_map}
use Rattle.chunk_tags.specs.declared.block.Block.{Block}
use Rattle.chunk_tags.specs.declared.tunables.Tunables.{Tunables}
use Rattle.address_space.specs.Ports.{Rose}
use Rattle.address_space.specs.Spaces.{space_refusals}
use Rattle.thread_cache.specs.Caches.{CacheValue}
use Rattle.arena_core.specs.Arenas.{need_of}
use Rattle.arena_core.specs.declared.journal.Who.{Who}
use Rattle.block_names.specs.Blocks.{IsHeld}
use Rattle.arena_holds.specs.Calls.{Call}
use Rattle.own_blocks.specs.Calls.{Supplied}
use Rattle.arena_holds.specs.Going.{Does}
use Rattle.arena_holds.specs.Holding.{GivesUp}
use Rattle.arena_holds.specs.Places.{Setting, Standing, Carries, both_of, weight_of, in_cache}
use Rattle.own_blocks.specs.declared.reply.To.{To}
use Rattle.own_blocks.specs.declared.supplying.Supply.{Supply}

-- the block of what was got
abbrev pub block_supplied : Option Supply → Option Block
block_supplied o = option_map (λ s. s.block) o

-- A block of nb bytes was got by these rules, or none.
pub record Supplies {P H D K : Type 0} (s : Setting P H D K) (t : Tunables) (who : Who) (rules : Call Supplied) (nb : ℕ) (cache : CacheValue)
    (old : Standing P K) (got : Option Supply) (left : CacheValue) (new : Standing P K) : Type 0 where
  pub does : Does s t who rules old (got, left) new
  pub held : IfSome got (λ g. IsHeld g.block)
  pub fits : IfSome got (λ g. need_of g.block.arena nb ≤ g.block.size)
  pub refused : got ≡ None → Rose (space_refusals s.means.kernel old.space) (space_refusals s.means.kernel new.space)
  pub later : space_refusals s.means.kernel old.space ≤ space_refusals s.means.kernel new.space
  pub carries : Carries s.ways true (in_cache cache) old (both_of (weight_of (block_supplied got)) (in_cache left)) new

-- A block of an arena was released: where it went.
pub record Releases {P H D K : Type 0} (s : Setting P H D K) (t : Tunables) (who : Who) (rules : Call (To × CacheValue)) (b : Block) (cache : CacheValue)
    (old : Standing P K) (to : To) (left : CacheValue) (new : Standing P K) : Type 0 where
  pub does : Does s t who rules old (to, left) new
  pub carries : Carries s.ways true (both_of (λ weigh. weigh b) (in_cache cache)) old (in_cache left) new

-- Memory was short there: the block comes back, or its arena has it.
pub record ReleasesShort {P H D K : Type 0} (s : Setting P H D K) (t : Tunables) (who : Who) (a : ℕ) (b : Block) (cache : CacheValue)
    (old : Standing P K) (back : Option Block) (left : CacheValue) (new : Standing P K) : Type 0 where
  pub same : IfSome back (λ c. c ≡ b)
  pub gone : back ≡ None → GivesUp s t who a b old new
  pub carries : Carries s.ways false (both_of (λ weigh. weigh b) (in_cache cache)) old
      (both_of (weight_of back) (in_cache left)) new
