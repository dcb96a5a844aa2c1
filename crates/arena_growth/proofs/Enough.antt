-- What is enough for a need.
use Rattle.std.proofs.Common.{◌≡◌, ℕ, ◌<◌, ◌≤◌, sym, subst, arith}
use Rattle.chunk_tags.specs.declared.tiles.Chunk.{Chunk}
use Rattle.chunk_tags.specs.Sizes.{IsChunkSize}
use Rattle.arena_rules.specs.PlainArena.{Plain, IsSound, times_listed}
use Rattle.arena_rules.proofs.ChunkMoves.{claimed_moved}
use Rattle.arena_growth.specs.Steps.{IsEnough}

-- the very size
pub enough_same : (nb size : ℕ) → IsChunkSize nb → size ≡ nb → IsEnough nb size
enough_same nb size chunk same = record { chunk = subst IsChunkSize (sym same) chunk; room = omega (arith, same) }

-- a listed chunk
pub enough_listed : (a : Plain) (c : Chunk) (nb : ℕ) → IsSound a → 0 < times_listed c a → nb ≤ c.size → IsEnough nb c.size
enough_listed a c nb s some le = record { chunk = (claimed_moved a c s some).size; room = le }
