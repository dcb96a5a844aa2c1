-- Where a chunk goes in a large bin, by addresses.
use Rattle.std.proofs.Common.{◌≡◌, ℕ, ◌<◌, ◌≤◌, List, [], ◌∷◌, ◌++◌, sym, ap, ◌∙◌, subst, arith, refl, map, set, Option, Some, None}
use Rattle.std.proofs.lemmas.List.{append-nil, append_assoc}
use Rattle.chunk_tags.specs.declared.tiles.Chunk.{Chunk}
use Rattle.chunk_tags.specs.declared.tiles.Tile.{Tile}
use Rattle.chunk_tags.specs.Sizes.{large_index_of}
use Rattle.chunk_tags.specs.BinOrder.{IsFalling, inserted}
use Rattle.chunk_tags.proofs.Falling.{compares, below, equal, above}
use Rattle.ordinary_bins.specs.Lists.{list_at, first_of, last_of}
use Rattle.large_bins.specs.SeenChunks.{size_at, chunks_by, put_large}
use Rattle.large_bins.specs.Places.{put_by, leads, leads_behind, AllAbove, Passes, StopsAt}
use Rattle.large_bins.proofs.Ends.{begins_with, no_first}
use Rattle.large_bins.proofs.FirstLaws.{leads_append, leads_above, leads_at, behind_equal, behind_less}

-- the addresses of chunks that were seen
addresses_back : (f : ℕ → ℕ) (xs : List ℕ) → map (λ (c : Chunk). c.at) (chunks_by f xs) ≡ xs
addresses_back f [] = refl
addresses_back f (x ∷ xs) = ap (λ (ys : List ℕ). x ∷ ys) (addresses_back f xs)

pub put_by_is : (f : ℕ → ℕ) (size at : ℕ) (xs : List ℕ) → map (λ (c : Chunk). c.at) (inserted (record { at = at; size = size }) (chunks_by f xs)) ≡ put_by f size at xs
put_by_is f size at [] = refl
put_by_is f size at (x ∷ xs) = elim (compares (f x) size) [
  | below t lt ↦ rw t (ap (λ (ys : List ℕ). at ∷ x ∷ ys) (addresses_back f xs))
  | equal t u e ↦ rw (t, u) (ap (λ (ys : List ℕ). x ∷ at ∷ ys) (addresses_back f xs))
  | above t u gt ↦ rw (t, u) (ap (λ (ys : List ℕ). x ∷ ys) (put_by_is f size at xs))
]

-- the lists after an insertion
pub put_is : (tiles : List Tile) (lists : List (List ℕ)) (bin size at : ℕ) (ys : List ℕ) → bin ≡ large_index_of size → put_by (size_at tiles) size at (list_at bin lists) ≡ ys → set lists bin ys ≡ put_large tiles (record { at = at; size = size }) lists
put_is tiles lists bin size at ys e is =
    ap (set lists bin) (sym (put_by_is (size_at tiles) size at (list_at bin lists) ∙ is)) ∙ ap (λ i. set lists i (map (λ (c : Chunk). c.at) (inserted (record { at = at; size = size }) (chunks_by (size_at tiles) (list_at i lists))))) e

-- an insertion passes greater chunks
put_past : (f : ℕ → ℕ) (size at : ℕ) (front xs : List ℕ) → AllAbove f size front → put_by f size at (front ++ xs) ≡ front ++ put_by f size at xs
put_past f size at [] xs h = refl
put_past f size at (x ∷ front) xs h = elim (compares (f x) size) [
  | below t lt ↦ absurd (omega (arith, lt, h.0))
  | equal t u e ↦ absurd (omega (arith, e, h.0))
  | above t u gt ↦ rw (t, u) (ap (λ (ys : List ℕ). x ∷ ys) (put_past f size at front xs h.1))
]

put_here : (f : ℕ → ℕ) (size at x : ℕ) (xs : List ℕ) → f x < size → put_by f size at (x ∷ xs) ≡ at ∷ x ∷ xs
put_here f size at x xs h = elim (compares (f x) size) [
  | below t lt ↦ rw t refl
  | equal t u e ↦ absurd (omega (arith, e, h))
  | above t u gt ↦ absurd (omega (arith, gt, h))
]

put_second : (f : ℕ → ℕ) (size at x : ℕ) (xs : List ℕ) → f x ≡ size → put_by f size at (x ∷ xs) ≡ x ∷ at ∷ xs
put_second f size at x xs h = elim (compares (f x) size) [
  | below t lt ↦ absurd (omega (arith, lt, h))
  | equal t u e ↦ rw (t, u) refl
  | above t u gt ↦ absurd (omega (arith, gt, h))
]

-- both lists after an insertion: that of the bin, and that of its first chunks
pub record Puts (f : ℕ → ℕ) (size at : ℕ) (xs firsts more news : List ℕ) : Type 0 where
  pub put : put_by f size at xs ≡ more
  pub first : news ≡ leads f more

pub puts_last : (f : ℕ → ℕ) (size at : ℕ) (xs firsts : List ℕ) → f at ≡ size → firsts ≡ leads f xs → AllAbove f size xs → Puts f size at xs firsts (xs ++ at ∷ []) (firsts ++ at ∷ [])
puts_last f size at xs firsts e is greater = record {
  put = ap (put_by f size at) (sym (append-nil xs)) ∙ put_past f size at xs [] greater;
  first = ap (λ (ys : List ℕ). ys ++ at ∷ []) is ∙ sym (leads_append f at xs [] (subst (λ m. AllAbove f m xs) (sym e) greater));
}

pub puts_second : (f : ℕ → ℕ) (size at n : ℕ) (xs firsts : List ℕ) → f at ≡ size → f n ≡ size → (s : StopsAt f size xs firsts n) → Puts f size at xs firsts (s.front ++ n ∷ at ∷ s.back) firsts
puts_second f size at n xs firsts e same s =
    let greater = subst (λ m. AllAbove f m s.front) (sym same) s.greater in
    record {
      put = ap (put_by f size at) s.split ∙ (put_past f size at s.front (n ∷ s.back) s.greater ∙ ap (λ (ys : List ℕ). s.front ++ ys) (put_second f size at n s.back same));
      first = s.first ∙ sym (leads_append f n s.front (at ∷ s.back) greater ∙ ap (λ (ys : List ℕ). leads f s.front ++ n ∷ ys) (behind_equal f (f n) at s.back (e ∙ sym same)));
    }

pub puts_before : (f : ℕ → ℕ) (size at n : ℕ) (xs firsts : List ℕ) → f at ≡ size → f n < size → (s : StopsAt f size xs firsts n) → Puts f size at xs firsts (s.front ++ at ∷ n ∷ s.back) (leads f s.front ++ at ∷ n ∷ leads_behind f (f n) s.back)
puts_before f size at n xs firsts e less s =
    let greater = subst (λ m. AllAbove f m s.front) (sym e) s.greater in
    record {
      put = ap (put_by f size at) s.split ∙ (put_past f size at s.front (n ∷ s.back) s.greater ∙ ap (λ (ys : List ℕ). s.front ++ ys) (put_here f size at n s.back less));
      first = sym (leads_append f at s.front (n ∷ s.back) greater ∙ ap (λ (ys : List ℕ). leads f s.front ++ at ∷ ys) (behind_less f (f at) n s.back (omega (arith, less, e))));
    }

-- A walk from the front over greater chunks.

-- the split at its next chunk
pub record At (xs : List ℕ) (n : ℕ) (front back : List ℕ) : Type 0 where
  pub split : xs ≡ front ++ n ∷ back

pub pass_at : {f : ℕ → ℕ} {size : ℕ} {xs : List ℕ} {n : ℕ} → (w : Passes f size xs (Some n)) → At xs n w.front (begins_with w.rest n w.first).back
pass_at {n = n} w = record { split = w.split ∙ ap (λ (ys : List ℕ). w.front ++ ys) (begins_with w.rest n w.first).is }

above_push : (f : ℕ → ℕ) (size x : ℕ) (front : List ℕ) → AllAbove f size front → size < f x → AllAbove f size (front ++ x ∷ [])
above_push f size x [] h lt = (lt, tt)
above_push f size x (y ∷ front) h lt = (h.0, above_push f size x front h.1 lt)

pub pass_on : {f : ℕ → ℕ} {size : ℕ} {xs : List ℕ} {next : Option ℕ} {n : ℕ} → (w : Passes f size xs (Some n)) → size < f n → first_of (begins_with w.rest n w.first).back ≡ next → Passes f size xs next
pass_on {f} {size} {xs} {next} {n} w lt e =
    let b = begins_with w.rest n w.first in
    record {
      front = w.front ++ n ∷ [];
      rest = b.back;
      split = (pass_at w).split ∙ sym (append_assoc w.front (n ∷ []) b.back);
      greater = above_push f size n w.front w.greater lt;
      first = e;
    }

-- it stops at a chunk that isn't greater
pub stops : (f : ℕ → ℕ) (size n : ℕ) (xs firsts : List ℕ) → IsFalling (chunks_by f xs) → firsts ≡ leads f xs → Passes f size firsts (Some n) → f n ≤ size → StopsAt f size xs firsts n
stops f size n xs firsts falls is w le =
    let s = pass_at w in
    let l = leads_at f n xs w.front (begins_with w.rest n w.first).back falls (sym is ∙ s.split) in
    record {
      front = l.front;
      back = l.back;
      split = l.split;
      first = s.split ∙ (ap (λ (ys : List ℕ). ys ++ n ∷ (begins_with w.rest n w.first).back) l.before_is ∙ ap (λ (ys : List ℕ). leads f l.front ++ n ∷ ys) l.behind_is);
      greater = leads_above f size l.front (subst (AllAbove f size) l.before_is w.greater);
      most = le;
    }

-- or at the end
pub ends : (f : ℕ → ℕ) (size : ℕ) (xs firsts : List ℕ) → firsts ≡ leads f xs → Passes f size firsts None → AllAbove f size xs
ends f size xs firsts is w =
    let all : firsts ≡ w.front = w.split ∙ (ap (λ (ys : List ℕ). w.front ++ ys) (no_first w.rest w.first) ∙ append-nil w.front) in
    leads_above f size xs (subst (AllAbove f size) (sym all ∙ is) w.greater)

-- a chunk that is smaller than the last one
pub all_greater : (f : ℕ → ℕ) (size : ℕ) (xs : List ℕ) (n : ℕ) → IsFalling (chunks_by f xs) → last_of xs ≡ Some n → size < f n → AllAbove f size xs
all_greater f size [] n falls last lt = tt
all_greater f size (x ∷ []) n falls last lt = (let e : x ≡ n = cc in subst (λ m. size < f m) (sym e) lt, tt)
all_greater f size (x ∷ y ∷ ys) n falls last lt =
    let later = all_greater f size (y ∷ ys) n falls.1 last lt in
    (omega (arith, falls.0, later.0), later)
