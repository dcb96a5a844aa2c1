-- Large bins, and a chunk that goes to the bin of its size, by addresses and by chunks.
use Rattle.std.proofs.Common.{◌≡◌, ℕ, ◌+◌, ◌<◌, ◌≤◌, Bool, true, false, cond, List, [], ◌∷◌, length, map, set, get_or, drop, Option, Some, None, refl, sym, ap, ◌∙◌, subst, arith, suc}
use Rattle.std.specs.Prelude.{nat_eq, nat_lt, not}
use Rattle.std.specs.List.{position_from}
use Rattle.std.specs.Option.{IsSome, option_map}
use Rattle.std.proofs.lemmas.Bool.{ne_eqb}
use Rattle.std.proofs.lemmas.List.{get_or-drop, drop-map, length-drop}
use Rattle.chunk_tags.specs.declared.tiles.Chunk.{Chunk}
use Rattle.chunk_tags.specs.BinOrder.{IsFalling, inserted, best_of, times_in, oldest_of}
use Rattle.chunk_tags.specs.Sizes.{is_small_size, small_index_of, large_index_of}
use Rattle.chunk_tags.specs.Tiles.{tile_at}
use Rattle.chunk_tags.specs.declared.tiles.Tile.{Tile}
use Rattle.chunk_tags.specs.declared.tiles.TileKind.TheVariants.{Free}
use Rattle.ordinary_bins.specs.Lists.{Linked, list_at, put_front, times_listed as times_linked, without as apart_from, bin_count, has_chunk, first_filled}
use Rattle.ordinary_bins.proofs.ListLaws.{unlinked_itself, unlinked_other}
use Rattle.chunk_image.specs.Rows.{TileRow}
use Rattle.large_bins.specs.SeenChunks.{large_chunks, put_large, HaveTiles}
use Rattle.arena_rules.specs.PlainArena.{Plain, bin_at, times_listed, unlinked, unsorted_of, with_bin, with_front}
use Rattle.arena_rules.specs.Moves.{tile_of}
use Rattle.arena_rules.specs.Search.{first_oldest, sorted_in}
use Rattle.arena_rules.proofs.Beside.{beside_sorted}
use Rattle.arena_rules.proofs.Bins.{bins_unlinked, times_in_bin}
use Rattle.arena_rules.proofs.Carving.{IsBestIn, best_in_bin}
use Rattle.arena_rules.proofs.ChunkMoves.{listed_tile}
use Rattle.arena_rules.proofs.Sorting.{large_index_ge, sorted_moved}
use Rattle.heap_top.specs.declared.regions.Regions.{Regions}
use Rattle.arena_ground.specs.Grounds.{arena_with, bins_at, tile_chunk, chunks_at, sorted_lists}
use Rattle.arena_ground.proofs.Bridges.{bin_is, bin_set, bins_without, chunk_here, linked_tile}
use Rattle.arena_ground.proofs.Keeping.{IsSoundGround, lists_of, IsDone, done}

-- each listed chunk has a tile
pub have_tiles : (r : Regions) (w : TileRow) (l : Linked) (last : Option ℕ) → IsSoundGround r w l last → HaveTiles w.tiles l.lists
have_tiles r w l last g = record { each = λ n some. subst IsSome (sym (linked_tile (arena_with r w l last) l.lists n (lists_of r w l last g) some)) refl }

pub tiles_without : (ts : List Tile) (at : ℕ) (lists : List (List ℕ)) → HaveTiles ts lists → HaveTiles ts (map (apart_from at) lists)
tiles_without ts at lists h = record {
  each = λ n some. h.each n (omega (arith, some, unlinked_other n at lists (λ e. omega (arith, some, unlinked_itself at lists, ap (λ m. times_linked m (map (apart_from at) lists)) e))));
}

-- ---- a large bin

chunks_back : (ts : List Tile) (xs : List ℕ) → chunks_at ts (map (λ (x : Chunk). x.at) (chunks_at ts xs)) ≡ chunks_at ts xs
chunks_back ts [] = refl
chunks_back ts (x ∷ xs) = ap (λ cs. tile_chunk ts x ∷ cs) (chunks_back ts xs)

-- an insertion by addresses, where sizes are those of the tiles
pub insertion_at : (ts : List Tile) (c : Chunk) (xs : List ℕ) → tile_chunk ts c.at ≡ c → chunks_at ts (map (λ (x : Chunk). x.at) (inserted c (chunks_at ts xs))) ≡ inserted c (chunks_at ts xs)
insertion_at ts c [] here = ap (λ (d : Chunk). d ∷ []) here
insertion_at ts c (x ∷ xs) here =
    let rest : List Chunk = chunks_at ts xs in
    let y : Chunk = tile_chunk ts x in
    let cases : (b d : Bool) → chunks_at ts (map (λ (x : Chunk). x.at) (cond b (c ∷ y ∷ rest) (cond d (y ∷ c ∷ rest) (y ∷ inserted c rest)))) ≡ cond b (c ∷ y ∷ rest) (cond d (y ∷ c ∷ rest) (y ∷ inserted c rest)) = elim [
      | true ↦ λ d. ap (λ (d : Chunk). d ∷ y ∷ chunks_at ts (map (λ (x : Chunk). x.at) rest)) here ∙ ap (λ cs. c ∷ y ∷ cs) (chunks_back ts xs)
      | false ↦ elim [
        | true ↦ ap (λ (d : Chunk). y ∷ d ∷ chunks_at ts (map (λ (x : Chunk). x.at) rest)) here ∙ ap (λ cs. y ∷ c ∷ cs) (chunks_back ts xs)
        | false ↦ ap (λ cs. y ∷ cs) (insertion_at ts c xs here)
      ]
    ] in
    cases (nat_lt y.size c.size) (nat_eq y.size c.size)

-- the best fit is a free tile
pub best_tile : (r : Regions) (w : TileRow) (l : Linked) (last : Option ℕ) (nb i : ℕ) → IsSoundGround r w l last → (c : Chunk) → best_of nb (chunks_at w.tiles (list_at i l.lists)) ≡ Some c → tile_at c.at w.tiles ≡ Some (tile_of Free c.at c.size)
best_tile r w l last nb i g c e =
    let a : Plain = arena_with r w l last in
    let b : IsBestIn a nb c = best_in_bin a i nb c (ap (best_of nb) (bin_is w.tiles l.lists i) ∙ e) in
    listed_tile a c g.sound b.listed

-- a chunk by its address
pub record IsChunkAt (o : Option Chunk) (n : ℕ) : Type 0 where
  pub chunk : Chunk
  pub is : o ≡ Some chunk
  pub at : chunk.at ≡ n

pub chunk_found : (o : Option Chunk) (n : ℕ) → Some n ≡ option_map (λ (c : Chunk). c.at) o → IsChunkAt o n
chunk_found None n e = absurd cc
chunk_found (Some c) n e = record { chunk = c; is = refl; at = cc }

pub falling_at : (r : Regions) (w : TileRow) (l : Linked) (last : Option ℕ) (nb : ℕ) → IsSoundGround r w l last → 1024 ≤ nb → IsFalling (large_chunks w.tiles nb l.lists)
falling_at r w l last nb g large =
    subst IsFalling (bin_is w.tiles l.lists (large_index_of nb)) ((g.sound.listed.bins (large_index_of nb)).falls (large_index_ge nb large))

-- ---- the bin of a size

-- the bins without a listed chunk, by addresses
pub rest_bins : (r : Regions) (w : TileRow) (l : Linked) (last : Option ℕ) (c : Chunk) → IsSoundGround r w l last → 0 < times_listed c (arena_with r w l last) → bins_at w.tiles (map (apart_from c.at) l.lists) ≡ (unlinked (arena_with r w l last) c).bins
rest_bins r w l last c g some = bins_without (arena_with r w l last) l.lists c (lists_of r w l last g) some

pub unsorted_listed : (a : Plain) (c : Chunk) → 0 < times_in c (unsorted_of a) → 0 < times_listed c a
unsorted_listed a c some = omega (arith, some, times_in_bin c a 1)

pub falling_rest : (r : Regions) (w : TileRow) (l : Linked) (last : Option ℕ) (c : Chunk) → IsSoundGround r w l last → 0 < times_listed c (arena_with r w l last) → 1024 ≤ c.size → IsFalling (large_chunks w.tiles c.size (map (apart_from c.at) l.lists))
falling_rest r w l last c g some large =
    let a : Plain = arena_with r w l last in
    let i : ℕ = large_index_of c.size in
    let bin : bin_at (unlinked a c) i ≡ chunks_at w.tiles (list_at i (map (apart_from c.at) l.lists)) =
    ap (λ bins. get_or bins i []) (sym (rest_bins r w l last c g some)) ∙ bin_is w.tiles (map (apart_from c.at) l.lists) i in
    subst IsFalling bin ((bins_unlinked c a g.sound.listed.bins i).falls (large_index_ge c.size large))

sorted_bins : (r : Regions) (w : TileRow) (l : Linked) (last : Option ℕ) (c : Chunk) → IsSoundGround r w l last → 0 < times_listed c (arena_with r w l last) → bins_at w.tiles (sorted_lists w.tiles c l.lists) ≡ (sorted_in (arena_with r w l last) c).bins
sorted_bins r w l last c g some =
    let a : Plain = arena_with r w l last in
    let ts : List Tile = w.tiles in
    let rest : List (List ℕ) = map (apart_from c.at) l.lists in
    let here : tile_chunk ts c.at ≡ c = chunk_here ts c (listed_tile a c g.sound some) in
    let bins : bins_at ts rest ≡ (unlinked a c).bins = rest_bins r w l last c g some in
    let bin : (i : ℕ) → chunks_at ts (list_at i rest) ≡ bin_at (unlinked a c) i = λ i. sym (bin_is ts rest i) ∙ ap (λ bins. get_or bins i []) bins in
    let with : (i : ℕ) (xs : List ℕ) (cs : List Chunk) → chunks_at ts xs ≡ cs → bins_at ts (set rest i xs) ≡ set (unlinked a c).bins i cs = λ i xs cs e.
    bin_set ts rest i xs ∙ (ap (λ bins. set bins i (chunks_at ts xs)) bins ∙ ap (set (unlinked a c).bins i) e) in
    let i : ℕ = small_index_of c.size in
    let j : ℕ = large_index_of c.size in
    let cases : (small : Bool) → bins_at ts (cond small (put_front i c.at rest) (put_large ts c rest)) ≡ (cond small (with_front (unlinked a c) i c) (with_bin (unlinked a c) j (inserted c (bin_at (unlinked a c) j)))).bins = elim [
      | true ↦ with i (c.at ∷ list_at i rest) (c ∷ bin_at (unlinked a c) i) (ap (λ (d : Chunk). d ∷ chunks_at ts (list_at i rest)) here ∙ ap (λ cs. c ∷ cs) (bin i))
      | false ↦ with j (map (λ (x : Chunk). x.at) (inserted c (chunks_at ts (list_at j rest)))) (inserted c (bin_at (unlinked a c) j)) (insertion_at ts c (list_at j rest) here ∙ ap (inserted c) (bin j))
    ] in
    cases (is_small_size c.size)

sorted_else : (a : Plain) (c : Chunk) → record a { bins = (sorted_in a c).bins } ≡ sorted_in a c
sorted_else a c =
    let b : Plain = unlinked a c in
    let cases : (small : Bool) → let new : Plain = cond small (with_front b (small_index_of c.size) c) (with_bin b (large_index_of c.size) (inserted c (bin_at b (large_index_of c.size)))) in record a { bins = new.bins } ≡ new = elim [ true ↦ refl | false ↦ refl ] in
    cases (is_small_size c.size)

pub sort_done : (r : Regions) (w : TileRow) (l m : Linked) (last : Option ℕ) (c : Chunk) → IsSoundGround r w l last → 0 < times_listed c (arena_with r w l last) → m.lists ≡ sorted_lists w.tiles c l.lists → m.extent ≡ l.extent → IsDone r w m last (sorted_in (arena_with r w l last) c)
sort_done r w l m last c g some lists links =
    let a : Plain = arena_with r w l last in
    let moved = (sorted_moved a c g.sound some).moved in
    let bins : bins_at w.tiles m.lists ≡ (sorted_in a c).bins = ap (bins_at w.tiles) lists ∙ sorted_bins r w l last c g some in
    done r w w l m last (sorted_in a c) _ _ g.ground moved (beside_sorted a c) (record { tiles = refl; links = links })
    (ap (λ bins. record a { bins = bins }) bins ∙ sorted_else a c) refl

-- ---- the first bin that has a chunk

first_from : (ts : List Tile) (lists rest : List (List ℕ)) (k : ℕ) → ((i : ℕ) → get_or rest i [] ≡ list_at (k + i) lists) → elim (position_from has_chunk k rest) [ None ↦ None | Some b ↦ oldest_of (chunks_at ts (list_at b lists)) ] ≡ first_oldest (bins_at ts rest)
first_from ts lists [] k same = refl
first_from ts lists ([] ∷ rest) k same = first_from ts lists rest (k + 1) (λ i. same (suc i) ∙ ap (λ n. list_at n lists) (omega arith))
first_from ts lists ((x ∷ xs) ∷ rest) k same =
    let here : list_at k lists ≡ x ∷ xs = ap (λ n. list_at n lists) (omega arith) ∙ sym (same 0) in
    let full : has_chunk (x ∷ xs) ≡ true = ap not (ne_eqb (length (x ∷ xs)) 0 (λ e. omega (arith, e))) in
    ap (λ b. elim (cond b (Some k) (position_from has_chunk (k + 1) rest)) [ None ↦ None | Some b ↦ oldest_of (chunks_at ts (list_at b lists)) ]) full
    ∙ ap (λ ys. oldest_of (chunks_at ts ys)) here

pub first_at : (ts : List Tile) (lists : List (List ℕ)) (k : ℕ) → elim (first_filled k lists) [ None ↦ None | Some b ↦ oldest_of (chunks_at ts (list_at b lists)) ] ≡ first_oldest (drop k (bins_at ts lists))
first_at ts lists k =
    first_from ts lists (drop k lists) k (λ i. get_or-drop k lists i []) ∙ ap first_oldest (sym (drop-map (chunks_at ts) k lists))

-- it is a bin
below_from : (rest : List (List ℕ)) (k b : ℕ) → position_from has_chunk k rest ≡ Some b → b < k + length rest
below_from [] k b e = absurd cc
below_from (xs ∷ rest) k b e =
    let cases : (t : Bool) → cond t (Some k) (position_from has_chunk (k + 1) rest) ≡ Some b → b < k + length (xs ∷ rest) = elim [
      | true ↦ λ h. let same : k ≡ b = cc in omega (arith, same)
      | false ↦ λ h. omega (arith, below_from rest (k + 1) b h)
    ] in
    cases (has_chunk xs) e

pub first_below : (lists : List (List ℕ)) (k b : ℕ) → first_filled k lists ≡ Some b → k ≤ bin_count → length lists ≡ bin_count → b < bin_count
first_below lists k b e le width = omega (arith, below_from (drop k lists) k b e, length-drop k lists, le, width)
