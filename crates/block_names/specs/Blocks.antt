-- Blocks in the hands of a thread (this project's own).
use Rattle.std.specs.Prelude.{◌≡◌, None}
use Rattle.chunk_tags.specs.Sizes.{IsChunkSize}
use Rattle.chunk_tags.specs.declared.block.Block.{Block}
use Rattle.mapped_chunks.specs.Mappings.{IsMapped}

-- a block that a thread may hold: a chunk, and where it belongs to no arena a mapped one
pub record IsHeld (b : Block) : Type 0 where
  pub chunk : IsChunkSize b.size
  pub mapped : b.arena ≡ None → IsMapped b
