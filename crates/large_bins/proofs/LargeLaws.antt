-- What an insertion lists, and what a best fit is. Other crates may cite this file.
use Rattle.std.proofs.Common.{◌≡◌, ℕ, ◌+◌, ◌<◌, ◌≤◌, List, [], ◌∷◌, cond, eqb, leb, sym, ap, ◌∙◌, subst, inl, inr, arith, refl, map, length, Option, Some, None}
use Rattle.std.specs.Option.{IsSome, option_map}
use Rattle.std.proofs.lemmas.Bool.{cases_Bool, eq-eqb, leb-true}
use Rattle.std.proofs.lemmas.Bool.Decides.{eqb_tells}
use Rattle.std.proofs.lemmas.List.{get_or-set_same, get_or-set_other}
use Rattle.std.proofs.lemmas.List.Sums.{sum_by-set}
use Rattle.chunk_tags.specs.declared.tiles.Tile.{Tile}
use Rattle.chunk_tags.specs.Sizes.{large_index_of}
use Rattle.chunk_tags.specs.Tiles.{tile_at}
use Rattle.chunk_tags.specs.declared.tiles.Chunk.{Chunk}
use Rattle.ordinary_bins.specs.Lists.{empty_lists, list_at, times_in, times_listed}
use Rattle.ordinary_bins.proofs.ListLaws.{times_in-cons, in_here, in_more, in_later, none_listed}
use Rattle.chunk_tags.specs.BinOrder.{IsFalling, inserted, smallest_fit, lesser, second_of, second_of_size, best_of}
use Rattle.large_bins.specs.SeenChunks.{size_at, chunks_by, large_chunks, put_large, HaveTiles}
use Rattle.large_bins.specs.Places.{put_by}
use Rattle.chunk_tags.proofs.Falling.{compares, below, equal, above, falling_inserted}
use Rattle.large_bins.proofs.Insertion.{put_by_is}
use Rattle.large_bins.proofs.Fitting.{same, of_size_is, second_is}

-- How often a chunk is listed after an insertion.

put_by_times : (f : ℕ → ℕ) (size at n : ℕ) (xs : List ℕ) → times_in n (put_by f size at xs) ≡ times_in n xs + cond (eqb n at) 1 0
put_by_times f size at n [] = omega (arith, times_in-cons n at [])
put_by_times f size at n (x ∷ xs) = elim (compares (f x) size) [
  | below t lt ↦ rw t (omega (arith, times_in-cons n at (x ∷ xs)))
  | equal t u e ↦ rw (t, u) (omega (arith, times_in-cons n x (at ∷ xs), times_in-cons n at xs, times_in-cons n x xs))
  | above t u gt ↦ rw (t, u) (omega (arith, put_by_times f size at n xs, times_in-cons n x (put_by f size at xs), times_in-cons n x xs))
]

pub put_large_listed : (n : ℕ) (tiles : List Tile) (c : Chunk) (lists : List (List ℕ)) → large_index_of c.size < length lists → times_listed n (put_large tiles c lists) ≡ times_listed n lists + cond (eqb n c.at) 1 0
put_large_listed n tiles c lists h =
    let bin = large_index_of c.size in
    let put = map (λ (x : Chunk). x.at) (inserted c (large_chunks tiles c.size lists)) in
    let more : times_in n put ≡ times_in n (list_at bin lists) + cond (eqb n c.at) 1 0 =
    ap (times_in n) (put_by_is (size_at tiles) c.size c.at (list_at bin lists)) ∙ put_by_times (size_at tiles) c.size c.at n (list_at bin lists) in
    omega (arith, more, sum_by-set (times_in n) lists bin put [] h)

put_large_is : (tiles : List Tile) (c : Chunk) (lists : List (List ℕ)) → large_index_of c.size < length lists → list_at (large_index_of c.size) (put_large tiles c lists) ≡ put_by (size_at tiles) c.size c.at (list_at (large_index_of c.size) lists)
put_large_is tiles c lists h =
    let bin = large_index_of c.size in
    let put = map (λ (x : Chunk). x.at) (inserted c (large_chunks tiles c.size lists)) in
    get_or-set_same lists bin put [] h ∙ put_by_is (size_at tiles) c.size c.at (list_at bin lists)

-- The best fit stands in its bin, and fits.

second_stands : (xs : List ℕ) (n : ℕ) → second_of xs ≡ Some n → 1 ≤ times_in n xs
second_stands [] n h = absurd cc
second_stands (x ∷ []) n h = let e : n ≡ x = cc in omega (arith, in_here n x [] e)
second_stands (x ∷ y ∷ ys) n h = let e : n ≡ y = cc in omega (arith, in_here n y ys e, in_more n x (y ∷ ys))

-- a chunk among those of a size
pub record OfSize (f : ℕ → ℕ) (s : ℕ) (xs : List ℕ) (n : ℕ) : Type 0 where
  pub stands : 1 ≤ times_in n xs
  pub size : f n ≡ s

of_size_stands : (f : ℕ → ℕ) (s : ℕ) (xs : List ℕ) (n : ℕ) → 1 ≤ times_in n (same f s xs) → OfSize f s xs n
of_size_stands f s [] n h = absurd (omega (arith, h))
of_size_stands f s (x ∷ xs) n h = elim (eqb_tells (f x) s) [
  | inl t ↦
      let k : 1 ≤ times_in n (x ∷ same f s xs) = rw t.0 at h in
      elim (eqb_tells n x) [
        | inl u ↦ record { stands = omega (arith, in_here n x xs u.1); size = ap f u.1 ∙ t.1 }
        | inr u ↦
            let later = of_size_stands f s xs n (omega (arith, k, in_later n x (same f s xs) u.1)) in
            record { stands = omega (arith, later.stands, in_more n x xs); size = later.size }
      ]
  | inr t ↦
      let later = of_size_stands f s xs n (rw t.0 at h) in
      record { stands = omega (arith, later.stands, in_more n x xs); size = later.size }
]

lesser_fits : (nb s : ℕ) (o : Option ℕ) → nb ≤ s → ((t : ℕ) → o ≡ Some t → nb ≤ t) → nb ≤ lesser s o
lesser_fits nb s None le h = le
lesser_fits nb s (Some t) le h = omega (arith, le, h t refl)

smallest_fits : (f : ℕ → ℕ) (nb : ℕ) (xs : List ℕ) (s : ℕ) → smallest_fit nb (chunks_by f xs) ≡ Some s → nb ≤ s
smallest_fits f nb [] s h = absurd cc
smallest_fits f nb (x ∷ xs) s h = elim (cases_Bool (leb nb (f x))) [
  | inl t ↦
      let e : Some (lesser (f x) (smallest_fit nb (chunks_by f xs))) ≡ Some s = rw t at h in
      let is : lesser (f x) (smallest_fit nb (chunks_by f xs)) ≡ s = cc in
      subst (λ m. nb ≤ m) is (lesser_fits nb (f x) (smallest_fit nb (chunks_by f xs)) (leb-true nb (f x) t) (λ t e. smallest_fits f nb xs t e))
  | inr t ↦ smallest_fits f nb xs s (rw t at h)
]

-- a chunk of a list that fits
pub record FitsIn (f : ℕ → ℕ) (nb : ℕ) (xs : List ℕ) (n : ℕ) : Type 0 where
  pub stands : 1 ≤ times_in n xs
  pub fits : nb ≤ f n

pub best_fits : (f : ℕ → ℕ) (nb : ℕ) (xs : List ℕ) (n : ℕ) → option_map (λ (c : Chunk). c.at) (best_of nb (chunks_by f xs)) ≡ Some n → FitsIn f nb xs n
best_fits f nb xs n h = by_size (smallest_fit nb (chunks_by f xs)) refl h
  where
    by_size : (o : Option ℕ) → smallest_fit nb (chunks_by f xs) ≡ o → option_map (λ (c : Chunk). c.at) (second_of_size o (chunks_by f xs)) ≡ Some n → FitsIn f nb xs n
    by_size None e k = absurd cc
    by_size (Some s) e k =
        let second : second_of (same f s xs) ≡ Some n = sym (second_is f (same f s xs)) ∙ (ap (λ (cs : List Chunk). option_map (λ (c : Chunk). c.at) (second_of cs)) (sym (of_size_is f s xs)) ∙ k) in
        let of = of_size_stands f s xs n (second_stands (same f s xs) n second) in
        record { stands = of.stands; fits = omega (arith, smallest_fits f nb xs s e, of.size) }

-- What an insertion leaves true of the lists.

-- the chunks of an insertion by addresses, where sizes are those of the chunks
put_by_chunks : (f : ℕ → ℕ) (c : Chunk) (xs : List ℕ) → f c.at ≡ c.size → chunks_by f (put_by f c.size c.at xs) ≡ inserted c (chunks_by f xs)
put_by_chunks f c [] e = ap (λ (s : ℕ). record { at = c.at; size = s } ∷ []) e
put_by_chunks f c (x ∷ xs) e = elim (compares (f x) c.size) [
  | below t lt ↦ rw t (ap (λ (s : ℕ). record { at = c.at; size = s } ∷ chunks_by f (x ∷ xs)) e)
  | equal t u eq ↦ rw (t, u) (ap (λ (s : ℕ). record { at = x; size = f x } ∷ record { at = c.at; size = s } ∷ chunks_by f xs) e)
  | above t u gt ↦ rw (t, u) (ap (λ (cs : List Chunk). record { at = x; size = f x } ∷ cs) (put_by_chunks f c xs e))
]

-- the bin stays in order
pub put_large_falls : (tiles : List Tile) (c : Chunk) (lists : List (List ℕ)) → size_at tiles c.at ≡ c.size → large_index_of c.size < length lists → IsFalling (large_chunks tiles c.size lists) → IsFalling (large_chunks tiles c.size (put_large tiles c lists))
put_large_falls tiles c lists e h falls =
    let xs = list_at (large_index_of c.size) lists in
    subst IsFalling (sym (ap (chunks_by (size_at tiles)) (put_large_is tiles c lists h) ∙ put_by_chunks (size_at tiles) c xs e)) (falling_inserted c (large_chunks tiles c.size lists) falls)

-- each listed chunk has a tile still, and where none is listed each has
pub put_large_tiles : (tiles : List Tile) (c : Chunk) (lists : List (List ℕ)) → large_index_of c.size < length lists → IsSome (tile_at c.at tiles) → HaveTiles tiles lists → HaveTiles tiles (put_large tiles c lists)
put_large_tiles tiles c lists h stands have = record {
  each = λ n some. elim (eqb_tells n c.at) [
    | inl t ↦ subst (λ m. IsSome (tile_at m tiles)) (sym t.1) stands
    | inr t ↦ have.each n (omega (arith, some, put_large_listed n tiles c lists h, ap (λ v. cond {A = ℕ} v 1 0) t.0))
  ];
}

pub no_tiles_needed : (tiles : List Tile) → HaveTiles tiles empty_lists
no_tiles_needed tiles = record { each = λ n some. absurd (omega (arith, some, none_listed n)) }
