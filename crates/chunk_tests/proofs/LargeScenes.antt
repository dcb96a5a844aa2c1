-- A chunk of the tests put into its bin.
use Rattle.std.proofs.Common.{◌≡◌, ℕ, ◌+◌, ◌<◌, ◌≤◌, List, cond, eqb, subst, arith, length}
use Rattle.std.specs.Option.{IsSome}
use Rattle.std.proofs.lemmas.Bool.Decides.{nat_tests}
use Rattle.chunk_tags.specs.Sizes.{large_index_of}
use Rattle.chunk_tags.specs.Tiles.{tile_at}
use Rattle.chunk_tags.specs.BinOrder.{IsFalling}
use Rattle.chunk_tags.specs.declared.tiles.Tile.{Tile}
use Rattle.ordinary_bins.specs.Lists.{bin_count, list_at, times_listed}
use Rattle.large_bins.specs.SeenChunks.{size_at, chunks_by, put_large, HaveTiles}
use Rattle.large_bins.proofs.LargeLaws.{put_large_listed, put_large_falls, put_large_tiles}

bin_of_the_tests : (s : ℕ) → 1984 ≤ s → s < 2048 → large_index_of s ≡ 79
bin_of_the_tests s least most = grind (arith, nat_tests)

pub record IsPut (ts : List Tile) (at : ℕ) (old new : List (List ℕ)) : Type 0 where
  pub listed : (n : ℕ) → times_listed n new ≡ times_listed n old + cond (eqb n at) 1 0
  pub tiles : HaveTiles ts new
  pub falls : IsFalling (chunks_by (size_at ts) (list_at 79 new))

pub put : (tiles : List Tile) (at size : ℕ) (lists : List (List ℕ)) → size_at tiles at ≡ size → 1984 ≤ size → size < 2048 → length lists ≡ bin_count → IsSome (tile_at at tiles) → HaveTiles tiles lists → IsFalling (chunks_by (size_at tiles) (list_at 79 lists)) → IsPut tiles at lists (put_large tiles (record { at = at; size = size }) lists)
put tiles at size lists is least most width stands have falls =
    let bin : large_index_of size ≡ 79 = bin_of_the_tests size least most in
    let below : large_index_of size < length lists = omega (arith, bin, width) in
    let order : IsFalling (chunks_by (size_at tiles) (list_at (large_index_of size) lists)) = rw bin falls in
    record {
      listed = λ n. put_large_listed n tiles (record { at = at; size = size }) lists below;
      tiles = put_large_tiles tiles (record { at = at; size = size }) lists below stands have;
      falls = subst (λ i. IsFalling (chunks_by (size_at tiles) (list_at i (put_large tiles (record { at = at; size = size }) lists)))) bin (put_large_falls tiles (record { at = at; size = size }) lists is below order);
    }
