-- What the layers above a board see of a pass (this project's own).
use Rattle.std.specs.Prelude.{ℕ, List}
use Rattle.chunk_tags.specs.declared.block.Block.{Block}
use Rattle.chunk_tags.specs.declared.tunables.Tunables.{Tunables}
use Rattle.board_types.specs.Views.{ViewValue, Added, Own, OwnChunk, Posted}

-- A pass as the layers above see it. No try of a lock changes it, and no lock. Lists have the newest item first, but for `added`.
pub record FlatView : Type 0 where
  -- those that the board was made with
  pub tunables : Tunables
  -- of its thread
  pub number : ℕ
  -- its blocks of arenas
  pub mine : List Block
  -- its mapped blocks: how many, and their bytes
  pub mapped : ℕ
  pub bytes : ℕ
  -- the bytes that its window for mappings gave, and all that it ever mapped: how many, and their bytes
  pub given : ℕ
  pub all_mapped : ℕ
  pub all_bytes : ℕ
  -- the lists of arenas of the books that it gave back, and the numbers of new arenas that are its own
  pub lists : List (List ℕ)
  pub own : List Own
  -- the entries that its unlocks added, in their order
  pub added : List Added
  -- the chunks that it pushed to fast bins, and those that it popped
  pub pushes : List OwnChunk
  pub pops : List OwnChunk
  -- what it read of dials, by the number of the word, and the sizes that it raised the mmap threshold to
  pub read : List (ℕ × ℕ)
  pub raises : List ℕ
  -- the blocks that it posted and took, what it found in trays where it could do neither, and how many asks missed
  pub posts : List Posted
  pub takes : List Posted
  pub found : List (ℕ × ℕ)
  pub asks : ℕ

-- of all that a pass knows
abbrev pub flat : ViewValue → FlatView
flat v = record {
  tunables = v.fixed.tunables;
  number = v.homes.number;
  mine = v.places.mine;
  mapped = v.dials.mapped;
  bytes = v.dials.bytes;
  given = v.dials.given;
  all_mapped = v.dials.all_mapped;
  all_bytes = v.dials.all_bytes;
  lists = v.homes.lists;
  own = v.homes.own;
  added = v.homes.added;
  pushes = v.chains.pushes;
  pops = v.chains.pops;
  read = v.dials.read;
  raises = v.dials.raises;
  posts = v.trays.posts;
  takes = v.trays.takes;
  found = v.trays.found;
  asks = v.told.missed_asks;
}
