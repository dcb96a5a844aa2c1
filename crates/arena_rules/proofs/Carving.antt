-- Laws of a free chunk that is taken, with a rest that is split off, and of a free chunk that goes to its own bin, for
-- this crate and those above it.
use Rattle.std.proofs.Common.{◌≡◌, ℕ, ◌+◌, ◌-◌, ◌<◌, ◌≤◌, Bool, true, false, cond, Some, refl, arith}
use Rattle.std.specs.Prelude.{nat_lt}
use Rattle.std.proofs.lemmas.Bool.{ltb-false}
use Rattle.chunk_tags.specs.declared.tiles.Chunk.{Chunk}
use Rattle.chunk_tags.specs.BinOrder.{oldest_of, best_of, once}
use Rattle.chunk_tags.specs.Sizes.{IsChunkSize}
use Rattle.arena_rules.specs.PlainArena.{Plain, bin_at, times_listed, IsSound, times_used}
use Rattle.arena_rules.specs.Moves.{claimed, parted, shelved}
use Rattle.arena_rules.specs.Search.{carved, carved_chunk}
use Rattle.arena_rules.proofs.Bins.{once_self, times_in_bin, oldest_listed, IsFitting, best_fits}
use Rattle.arena_rules.proofs.Moved.{Moved, none, nothing, moved_then, moved_as, came_used}
use Rattle.arena_rules.proofs.ChunkMoves.{own_from, IsClaimed, claimed_moved, IsPartedAt, parted_moved, shelved_moved}

-- ---- a free chunk is taken

abbrev pub rest_of : Chunk → ℕ → Chunk
rest_of c nb = record { at = c.at + nb; size = c.size - nb }

carved_rest : (a : Plain) (c : Chunk) (nb : ℕ) → IsSound a → 0 < times_listed c a → IsChunkSize nb → nb + 32 ≤ c.size → Moved a (shelved (parted (claimed a c) c nb) (rest_of c nb)) none (λ e. once e (record { at = c.at; size = nb })) nothing nothing
carved_rest a c nb s some chunk le =
    let b : Plain = claimed a c in
    let p : Plain = parted b c nb in
    let first : Chunk = record { at = c.at; size = nb } in
    let rest : Chunk = rest_of c nb in
    let m : IsClaimed a c = claimed_moved a c s some in
    let own : 0 < times_used c b = omega (arith, m.moved.used c, once_self c) in
    let n : IsPartedAt b c nb = parted_moved b c nb m.moved.sound (own_from b c own) chunk (omega (arith, le), omega (arith, le, chunk.1, m.size.1)) in
    let own_rest : 0 < times_used rest p = came_used b p c (λ e. once e first + once e rest) nothing nothing rest n.moved own (omega (arith, once_self rest)) in
    let q = shelved_moved p rest n.moved.sound (own_from p rest own_rest) (n.alone m.alone) in
    let d : Plain = shelved p rest in
    moved_as a d _ _ none (λ e. once e first) _ _ nothing nothing
    (moved_then a p d _ _ (λ e. once e rest) none nothing nothing nothing nothing (moved_then a b p none (λ e. once e c) (λ e. once e c) (λ e. once e first + once e rest) nothing nothing nothing nothing m.moved n.moved) q)
    (λ e. omega arith) (λ v adds. refl)

pub carved_moved : (a : Plain) (c : Chunk) (nb : ℕ) → IsSound a → 0 < times_listed c a → IsChunkSize nb → nb ≤ c.size → Moved a (carved a c nb) none (λ e. once e (carved_chunk c nb)) nothing nothing
carved_moved a c nb s some chunk le =
    let cases : (b : Bool) → nat_lt (c.size - nb) 32 ≡ b → Moved a (cond b (claimed a c) (shelved (parted (claimed a c) c nb) (rest_of c nb))) none (λ e. once e (cond b c (record { at = c.at; size = nb }))) nothing nothing = elim [
      | true ↦ λ is. (claimed_moved a c s some).moved
      | false ↦ λ is. carved_rest a c nb s some chunk (omega (arith, le, ltb-false (c.size - nb) 32 is))
    ] in
    cases (nat_lt (c.size - nb) 32) refl

-- ---- chunks that the search finds are listed

pub oldest_in_bin : (a : Plain) (i : ℕ) (c : Chunk) → oldest_of (bin_at a i) ≡ Some c → 0 < times_listed c a
oldest_in_bin a i c e = omega (arith, oldest_listed c (bin_at a i) e, times_in_bin c a i)

pub record IsBestIn (a : Plain) (nb : ℕ) (c : Chunk) : Type 0 where
  pub listed : 0 < times_listed c a
  pub fits : nb ≤ c.size

pub best_in_bin : (a : Plain) (i nb : ℕ) (c : Chunk) → best_of nb (bin_at a i) ≡ Some c → IsBestIn a nb c
best_in_bin a i nb c e =
    let f : IsFitting nb c (bin_at a i) = best_fits nb c (bin_at a i) e in
    record { listed = omega (arith, f.listed, times_in_bin c a i); fits = f.fits }
