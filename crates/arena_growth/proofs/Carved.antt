-- A found chunk can be carved: it is claimed, parted, and its rest is shelved, each move from a sound arena.
use Rattle.std.proofs.Common.{ℕ, ◌+◌, ◌-◌, ◌<◌, ◌≤◌, IsTrue, arith}
use Rattle.chunk_tags.specs.BinOrder.{once}
use Rattle.chunk_tags.specs.declared.tiles.Chunk.{Chunk}
use Rattle.chunk_tags.specs.Sizes.{IsChunkSize}
use Rattle.arena_rules.specs.PlainArena.{Plain, IsSound, times_listed, times_used, is_own}
use Rattle.arena_rules.specs.Moves.{claimed, parted, StandsAlone}
use Rattle.arena_rules.proofs.Bins.{once_self}
use Rattle.arena_rules.proofs.Moved.{came_used, nothing}
use Rattle.arena_rules.proofs.ChunkMoves.{own_from, IsClaimed, claimed_moved, IsPartedAt, parted_moved}
use Rattle.arena_rules.proofs.Carving.{rest_of}

-- what a claimed chunk meets that is parted
pub record CanPart (a : Plain) (c : Chunk) (nb : ℕ) : Type 0 where
  pub sound : IsSound (claimed a c)
  pub own : IsTrue (is_own (claimed a c) c)
  pub rest : IsChunkSize (c.size - nb)

pub can_part : (a : Plain) (c : Chunk) (nb : ℕ) → IsSound a → 0 < times_listed c a → IsChunkSize nb → nb + 32 ≤ c.size → CanPart a c nb
can_part a c nb s some chunk le =
    let m : IsClaimed a c = claimed_moved a c s some in
    record {
      sound = m.moved.sound;
      own = own_from (claimed a c) c (omega (arith, m.moved.used c, once_self c));
      rest = (omega (arith, le), omega (arith, le, chunk.1, m.size.1));
    }

-- what its rest meets that is shelved
pub record CanShelve (a : Plain) (c : Chunk) (nb : ℕ) : Type 0 where
  pub sound : IsSound (parted (claimed a c) c nb)
  pub own : IsTrue (is_own (parted (claimed a c) c nb) (rest_of c nb))
  pub alone : StandsAlone (parted (claimed a c) c nb) (rest_of c nb)

pub can_shelve : (a : Plain) (c : Chunk) (nb : ℕ) → IsSound a → 0 < times_listed c a → IsChunkSize nb → nb + 32 ≤ c.size → CanShelve a c nb
can_shelve a c nb s some chunk le =
    let b : Plain = claimed a c in
    let m : IsClaimed a c = claimed_moved a c s some in
    let can : CanPart a c nb = can_part a c nb s some chunk le in
    let own : 0 < times_used c b = omega (arith, m.moved.used c, once_self c) in
    let n : IsPartedAt b c nb = parted_moved b c nb can.sound can.own chunk can.rest in
    let first : Chunk = record { at = c.at; size = nb } in
    record {
      sound = n.moved.sound;
      own = own_from (parted b c nb) (rest_of c nb)
          (came_used b (parted b c nb) c (λ e. once e first + once e (rest_of c nb)) nothing nothing (rest_of c nb) n.moved own (omega (arith, once_self (rest_of c nb))));
      alone = n.alone m.alone;
    }
