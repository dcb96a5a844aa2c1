-- How the lists of an open cache are kept, each with room that was reserved for it (this project's own). No public
-- clause cites this file.
use Rattle.std.specs.Prelude.{ℕ, ◌≤◌, List, map}
use Rattle.std.specs.List.{All}
use Rattle.chunk_tags.specs.declared.block.Block.{Block}
use Rattle.thread_cache.specs.Caches.{Opened}
use Rattle.thread_cache.specs.Held.{IsSoundCache}

-- the blocks, newest first, and how many may be there before memory is asked for
pub record Stacked : Type 0 where
  pub room : ℕ
  pub blocks : List Block

-- the open cache whose lists are kept so
abbrev pub seen : Block → ℕ → ℕ → List Stacked → Opened
seen structure count bins stacks = record { structure = structure; count = count; bins = bins; lists = map (λ s. s.blocks) stacks }

-- each list has room for as many blocks as it may have
pub record IsKept (structure : Block) (count bins : ℕ) (stacks : List Stacked) : Type 0 where
  pub sound : IsSoundCache (seen structure count bins stacks)
  pub room : All (λ s. count ≤ s.room) stacks
