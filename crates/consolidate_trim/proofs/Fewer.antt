-- With each merge an arena has one used chunk fewer, for this crate: so the loop over a fast bin ends, and an arena has
-- no more chunks to merge than tiles.
use Rattle.std.proofs.Common.{◌≡◌, ℕ, ◌+◌, ◌<◌, ◌≤◌, Bool, true, false, ◌&&◌, cond, List, [], ◌∷◌, length, map, filter, refl, sym, ap, ◌∙◌, arith}
use Rattle.std.specs.Prelude.{sum_by}
use Rattle.std.proofs.lemmas.List.{length-map}
use Rattle.std.proofs.lemmas.List.Sums.{sum_by-cons, count_by-le-length, length-filter}
use Rattle.chunk_tags.specs.declared.tiles.Chunk.{Chunk}
use Rattle.chunk_tags.specs.declared.tiles.Tile.{Tile}
use Rattle.chunk_tags.specs.BinOrder.{same_chunk, times_in, once}
use Rattle.chunk_tags.specs.Tiles.{is_used}
use Rattle.arena_rules.specs.Moves.{chunk_of}
use Rattle.arena_rules.specs.PlainArena.{Plain, times_used, is_chunk}
use Rattle.arena_rules.proofs.Bins.{same_chunk_is, once_self}
use Rattle.arena_rules.proofs.Counts.{weight}

-- a list without the first that is a chunk
less : Chunk → List Chunk → List Chunk
less c [] = []
less c (d ∷ ds) = cond (same_chunk c d) ds (d ∷ less c ds)

-- what is known of it, where the chunk is in the list
record IsLess (c : Chunk) (cs ds : List Chunk) : Type 0 where
  times : (e : Chunk) → times_in e ds + once e c ≡ times_in e cs
  shorter : length ds + 1 ≡ length cs

less_is : (c : Chunk) (cs : List Chunk) → 0 < times_in c cs → IsLess c cs (less c cs)
unfolding less
less_is c [] some = absurd (omega arith)
less_is c (d ∷ ds) some =
    let cases : (b : Bool) → same_chunk c d ≡ b → IsLess c (d ∷ ds) (cond b ds (d ∷ less c ds)) = elim [
      | true ↦ λ same. record {
        times = λ e. omega (arith, sum_by-cons (once e) d ds, ap (once e) (same_chunk_is c d same));
        shorter = omega arith;
      }
      | false ↦ λ other.
          let none : once c d ≡ 0 = ap (λ (b : Bool). cond b 1 0) other in
          let l : IsLess c ds (less c ds) = less_is c ds (omega (arith, sum_by-cons (once c) d ds, none)) in
          record {
            times = λ e. omega (arith, sum_by-cons (once e) d ds, sum_by-cons (once e) d (less c ds), l.times e);
            shorter = omega (arith, l.shorter);
          }
    ] in
    cases (same_chunk c d) refl

-- a list with no chunk more often than another isn't longer
no_longer : (xs ys : List Chunk) → ((e : Chunk) → times_in e xs ≤ times_in e ys) → length xs ≤ length ys
no_longer [] ys le = omega arith
no_longer (x ∷ xs) ys le =
    let l : IsLess x ys (less x ys) = less_is x ys (omega (arith, le x, sum_by-cons (once x) x xs, once_self x)) in
    omega (arith, l.shorter, no_longer xs (less x ys) (λ e. omega (arith, le e, l.times e, sum_by-cons (once e) x xs)))

-- the used chunks of an arena
abbrev pub used_of : Plain → List Chunk
used_of a = map chunk_of (filter is_used a.tiles)

times_in_used : (e : Chunk) (ts : List Tile) → times_in e (map chunk_of (filter is_used ts)) ≡ sum_by (weight is_used e) ts
times_in_used e [] = refl
times_in_used e (t ∷ ts) =
    let is_weight : (b : Bool) → is_used t ≡ b → weight is_used e t ≡ cond (b && is_chunk e t) 1 0 = λ b is. ap {B = ℕ} (λ (b : Bool). cond (b && is_chunk e t) 1 0) is in
    let cases : (b : Bool) → is_used t ≡ b → times_in e (map chunk_of (cond b (t ∷ filter is_used ts) (filter is_used ts))) ≡ weight is_used e t + sum_by (weight is_used e) ts = elim [
      | true ↦ λ is. omega (arith, sum_by-cons (once e) (chunk_of t) (map chunk_of (filter is_used ts)), is_weight true is, times_in_used e ts)
      | false ↦ λ is. omega (arith, is_weight false is, times_in_used e ts)
    ] in
    cases (is_used t) refl ∙ sym (sum_by-cons (weight is_used e) t ts)

-- where one used chunk went, they are fewer
pub fewer_used : (a b : Plain) (c : Chunk) → ((e : Chunk) → times_used e b + once e c ≡ times_used e a) → length (used_of b) < length (used_of a)
fewer_used a b c same =
    let le : length (c ∷ used_of b) ≤ length (used_of a) = no_longer (c ∷ used_of b) (used_of a) (λ e. omega (arith, same e, times_in_used e a.tiles, times_in_used e b.tiles, sum_by-cons (once e) c (used_of b))) in
    omega (arith, le)

-- an arena with a used chunk has some
pub some_used : (a : Plain) (c : Chunk) → 0 < times_used c a → 0 < length (used_of a)
some_used a c some =
    let l : IsLess c (used_of a) (less c (used_of a)) = less_is c (used_of a) (omega (arith, some, times_in_used c a.tiles)) in
    omega (arith, l.shorter)

pub used_within : (a : Plain) → length (used_of a) ≤ length a.tiles
used_within a =
    omega (arith, length-map (filter is_used a.tiles) chunk_of, length-filter is_used a.tiles, count_by-le-length is_used a.tiles)
