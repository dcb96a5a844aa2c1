-- Lists of addresses as lists of chunks, whose sizes are those of tiles.
use Rattle.std.proofs.Common.{◌≡◌, ℕ, ◌<◌, ◌≤◌, Bool, true, false, ◌&&◌, cond, List, [], ◌∷◌, get_or, set, map, Some, None, refl, sym, ap, ◌∙◌, subst, inl, inr, arith, zero, suc}
use Rattle.std.specs.Prelude.{nat_eq, not, sum_by}
use Rattle.std.proofs.lemmas.Bool.{eq-eqb, ne_eqb}
use Rattle.std.proofs.lemmas.Bool.Decides.{eqb_tells}
use Rattle.std.proofs.lemmas.List.{map-set}
use Rattle.std.proofs.lemmas.List.Sums.{sum_by-cons}
use Rattle.std.proofs.Math.ListN.{get_or-map}
use Rattle.chunk_tags.specs.declared.tiles.Chunk.{Chunk}
use Rattle.chunk_tags.specs.BinOrder.{same_chunk, times_in, without, oldest_of, once}
use Rattle.chunk_tags.specs.Tiles.{Row, swapped, tile_at}
use Rattle.chunk_tags.specs.declared.tiles.Tile.{Tile}
use Rattle.chunk_tags.specs.declared.tiles.TileKind.TheVariants.{Free}
use Rattle.part_words.specs.Extents.{Extent, IsOpen}
use Rattle.chunk_image.specs.Rows.{IsRoom}
use Rattle.ordinary_bins.specs.Lists.{times_in as times_at, times_listed as times_linked, without as apart_from, last_of, list_at}
use Rattle.ordinary_bins.proofs.ListLaws.{times_in-cons, times_listed-cons, in_here, in_more}
use Rattle.large_bins.specs.SeenChunks.{size_in, size_at}
use Rattle.arena_rules.specs.PlainArena.{Plain, IsSound, times_listed}
use Rattle.arena_rules.specs.Moves.{tile_of, is_free_tile}
use Rattle.arena_rules.proofs.Changes.{tile_is}
use Rattle.arena_rules.proofs.ChunkMoves.{listed_tile}
use Rattle.arena_rules.proofs.Lookups.{swapped_other}
use Rattle.arena_rules.proofs.Rows.{addr_at}
use Rattle.heap_top.proofs.TopLaws.{came_at}
use Rattle.arena_ground.specs.Grounds.{tile_chunk, chunks_at, bins_at}

same_at : (ts : List Tile) (n m : ℕ) → same_chunk (tile_chunk ts n) (tile_chunk ts m) ≡ nat_eq n m
same_at ts n m =
    let sizes : Bool = nat_eq (size_at ts n) (size_at ts m) in
    elim (eqb_tells n m) [
      | inl t ↦ ap (λ b. b && sizes) t.0 ∙ (eq-eqb (size_at ts n) (size_at ts m) (ap (size_at ts) t.1) ∙ sym t.0)
      | inr t ↦ ap (λ b. b && sizes) t.0 ∙ sym t.0
    ]

-- ---- how often a chunk stands in a list

pub times_here : (ts : List Tile) (n : ℕ) (xs : List ℕ) → times_in (tile_chunk ts n) (chunks_at ts xs) ≡ times_at n xs
times_here ts n [] = refl
times_here ts n (x ∷ xs) = omega (
  arith,
  sum_by-cons (once (tile_chunk ts n)) (tile_chunk ts x) (chunks_at ts xs),
  times_in-cons n x xs,
  times_here ts n xs,
  ap (λ (b : Bool). cond {A = ℕ} b 1 0) (same_at ts n x),
)

pub times_all : (ts : List Tile) (n : ℕ) (lists : List (List ℕ)) → sum_by (times_in (tile_chunk ts n)) (bins_at ts lists) ≡ times_linked n lists
times_all ts n [] = refl
times_all ts n (xs ∷ lists) = omega (
  arith,
  sum_by-cons (times_in (tile_chunk ts n)) (chunks_at ts xs) (bins_at ts lists),
  times_listed-cons n xs lists,
  times_here ts n xs,
  times_all ts n lists,
)

-- ---- lists without a chunk

without_here : (ts : List Tile) (n : ℕ) (xs : List ℕ) → chunks_at ts (apart_from n xs) ≡ without (tile_chunk ts n) (chunks_at ts xs)
without_here ts n [] = refl
without_here ts n (x ∷ xs) =
    let rest : List Chunk = without (tile_chunk ts n) (chunks_at ts xs) in
    let cases : (b : Bool) → chunks_at ts (cond (not b) (x ∷ apart_from n xs) (apart_from n xs)) ≡ cond (not b) (tile_chunk ts x ∷ rest) rest = elim [
      | true ↦ without_here ts n xs
      | false ↦ ap (λ cs. tile_chunk ts x ∷ cs) (without_here ts n xs)
    ] in
    cases (nat_eq n x) ∙ ap (λ b. cond (not b) (tile_chunk ts x ∷ rest) rest) (sym (same_at ts n x))

bins_apart : (ts : List Tile) (n : ℕ) (lists : List (List ℕ)) → bins_at ts (map (apart_from n) lists) ≡ map (without (tile_chunk ts n)) (bins_at ts lists)
bins_apart ts n [] = refl
bins_apart ts n (xs ∷ lists) =
    ap (λ cs. cs ∷ bins_at ts (map (apart_from n) lists)) (without_here ts n xs)
    ∙ ap (λ bins. without (tile_chunk ts n) (chunks_at ts xs) ∷ bins) (bins_apart ts n lists)

-- ---- tiles that agree where chunks are listed

agree_here : (ts us : List Tile) (xs : List ℕ) → ((n : ℕ) → 0 < times_at n xs → size_at us n ≡ size_at ts n) → chunks_at us xs ≡ chunks_at ts xs
agree_here ts us [] same = refl
agree_here ts us (x ∷ xs) same =
    ap (λ size. record { at = x; size = size } ∷ chunks_at us xs) (same x (omega (arith, in_here x x xs refl)))
    ∙ ap (λ cs. tile_chunk ts x ∷ cs) (agree_here ts us xs (λ n some. same n (omega (arith, some, in_more n x xs))))

pub agree : (ts us : List Tile) (lists : List (List ℕ)) → ((n : ℕ) → 0 < times_linked n lists → size_at us n ≡ size_at ts n) → bins_at us lists ≡ bins_at ts lists
agree ts us [] same = refl
agree ts us (xs ∷ lists) same =
    ap (λ cs. cs ∷ bins_at us lists) (agree_here ts us xs (λ n some. same n (omega (arith, some, times_listed-cons n xs lists))))
    ∙ ap (λ bins. chunks_at ts xs ∷ bins) (agree ts us lists (λ n some. same n (omega (arith, some, times_listed-cons n xs lists))))

-- a tile of the same size in the place of another
pub size_kept : (at n : ℕ) (t x : Tile) (ts : List Tile) → tile_at at ts ≡ Some t → x.addr ≡ at → x.size ≡ t.size → size_at (swapped at (x ∷ []) ts) n ≡ size_at ts n
size_kept at n t x ts found here size =
    elim (eqb_tells n at) [
      | inl e ↦
          let new : tile_at n (swapped at (x ∷ []) ts) ≡ Some x = came_at at n (x ∷ []) ts t x found (inl e.1) (ap (λ b. cond b (Some x) None) (eq-eqb x.addr n (here ∙ sym e.1))) in
          ap size_in new ∙ (size ∙ sym (ap size_in (ap (λ m. tile_at m ts) e.1 ∙ found)))
      | inr e ↦ ap size_in (swapped_other at n (x ∷ []) ts e.1 (ap (λ b. cond b (Some x) None) (ne_eqb x.addr n (λ h. e.1 (sym h ∙ here)))))
    ]

-- ---- ends of a list, and bins

pub oldest_at : (ts : List Tile) (xs : List ℕ) → oldest_of (chunks_at ts xs) ≡ elim (last_of xs) [ None ↦ None | Some n ↦ Some (tile_chunk ts n) ]
oldest_at ts [] = refl
oldest_at ts (x ∷ []) = refl
oldest_at ts (x ∷ y ∷ ys) = oldest_at ts (y ∷ ys)

pub bin_is : (ts : List Tile) (lists : List (List ℕ)) (i : ℕ) → get_or (bins_at ts lists) i [] ≡ chunks_at ts (list_at i lists)
bin_is ts lists i = get_or-map (chunks_at ts) lists i []

pub bin_set : (ts : List Tile) (lists : List (List ℕ)) (i : ℕ) (xs : List ℕ) → bins_at ts (set lists i xs) ≡ set (bins_at ts lists) i (chunks_at ts xs)
bin_set ts lists i xs = map-set (chunks_at ts) lists i xs

-- ---- listed chunks of a sound arena are its free tiles

pub chunk_here : (ts : List Tile) (c : Chunk) → tile_at c.at ts ≡ Some (tile_of Free c.at c.size) → tile_chunk ts c.at ≡ c
chunk_here ts c e = ap (λ n. record { at = c.at; size = n }) (ap size_in e)

-- the bins of an arena are these lists
pub record AreBins (a : Plain) (lists : List (List ℕ)) : Type 0 where
  pub bins : a.bins ≡ bins_at a.tiles lists
  pub sound : IsSound a

pub linked_times : (a : Plain) (lists : List (List ℕ)) (n : ℕ) → AreBins a lists → times_listed (tile_chunk a.tiles n) a ≡ times_linked n lists
linked_times a lists n b = ap (sum_by (times_in (tile_chunk a.tiles n))) b.bins ∙ times_all a.tiles n lists

pub listed_times : (a : Plain) (lists : List (List ℕ)) (c : Chunk) → AreBins a lists → 0 < times_listed c a → times_linked c.at lists ≡ times_listed c a
listed_times a lists c b some =
    sym (linked_times a lists c.at b) ∙ ap (λ d. times_listed d a) (chunk_here a.tiles c (listed_tile a c b.sound some))

pub linked_tile : (a : Plain) (lists : List (List ℕ)) (n : ℕ) → AreBins a lists → 0 < times_linked n lists → tile_at n a.tiles ≡ Some (tile_of Free n (size_at a.tiles n))
linked_tile a lists n b some = listed_tile a (tile_chunk a.tiles n) b.sound (omega (arith, some, linked_times a lists n b))

-- an address without a free tile isn't listed
pub unlinked_at : (a : Plain) (lists : List (List ℕ)) (n : ℕ) → AreBins a lists → is_free_tile (tile_at n a.tiles) ≡ false → times_linked n lists ≡ 0
unlinked_at a lists n b bare =
    let cases : (m : ℕ) → times_linked n lists ≡ m → m ≡ 0 = elim [
      | zero ↦ λ e. refl
      | (suc m) ↦ λ e.
          let free : is_free_tile (tile_at n a.tiles) ≡ true = ap is_free_tile (linked_tile a lists n b (omega (arith, e))) in
          absurd cc
    ] in
    cases (times_linked n lists) refl

-- the bins without a chunk
pub bins_without : (a : Plain) (lists : List (List ℕ)) (c : Chunk) → AreBins a lists → 0 < times_listed c a → bins_at a.tiles (map (apart_from c.at) lists) ≡ map (without c) a.bins
bins_without a lists c b some =
    bins_apart a.tiles c.at lists
    ∙ (ap (λ d. map (without d) (bins_at a.tiles lists)) (chunk_here a.tiles c (listed_tile a c b.sound some))
    ∙ ap (map (without c)) (sym b.bins))

-- a tile's address has a word
pub open_here : (e : Extent) (n : ℕ) (t : Tile) (ts : List Tile) → Row ts → tile_at n ts ≡ Some t → IsRoom e n t.size → IsOpen e n
open_here e n t ts row found room =
    let here : t.addr ≡ n = addr_at n t ts found in
    let some : 32 ≤ t.size = (tile_is t ts row (ap (λ m. tile_at m ts) here ∙ found)).size.0 in
    subst (IsOpen e) (omega arith) (room.words 0 (omega (arith, some)))
