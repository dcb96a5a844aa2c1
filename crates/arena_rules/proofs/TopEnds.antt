-- Laws of where top ends, for this crate and those above it: what is cut off it, becomes part of it or grows into it leaves
-- its end, so another arena is placed after these moves too.
use Rattle.std.proofs.Common.{◌≡◌, ℕ, ◌+◌, ◌-◌, ◌<◌, ◌≤◌, Bool, true, false, cond, List, [], ◌∷◌, drop, Some, None, IsTrue, refl, ap, ◌∙◌, arith}
use Rattle.std.specs.Prelude.{nat_eq, nat_le, sum_by}
use Rattle.std.proofs.lemmas.Bool.{and_parts, leb-true}
use Rattle.std.proofs.lemmas.List.Sums.{sum_by-cons}
use Rattle.chunk_tags.specs.declared.tiles.Chunk.{Chunk}
use Rattle.chunk_tags.specs.Sizes.{IsChunkSize}
use Rattle.chunk_tags.specs.Tiles.{is_top, end_of, fused, tile_before, tile_behind, top_of}
use Rattle.chunk_tags.specs.declared.tiles.Tile.{Tile}
use Rattle.chunk_tags.specs.declared.tiles.TileKind.TheVariants.{Used, Top}
use Rattle.arena_rules.specs.PlainArena.{Plain, is_own, IsSound}
use Rattle.arena_rules.specs.Moves.{tile_of, with_tiles, is_before_top, top_size, top_end, absorbed, cut_from_top}
use Rattle.arena_rules.specs.Resize.{fits_with_top, grown_into_top}
use Rattle.arena_rules.specs.HeapPlaces.{IsHeapPlaced}
use Rattle.arena_rules.proofs.Beside.{beside_cut}
use Rattle.arena_rules.proofs.Counts.{used_tile}
use Rattle.arena_rules.proofs.Changes.{AreNeighbours, neighbours_behind}
use Rattle.arena_rules.proofs.ChunkMoves.{own_count}
use Rattle.arena_rules.proofs.HeapPlaces.{heap_still}
use Rattle.arena_rules.proofs.HeapTiles.{HasLastTop, last_top}
use Rattle.arena_rules.proofs.Merging.{HasTopBehind, has_top_behind, absorbed_moved}
use Rattle.arena_rules.proofs.Moved.{weight_top, top_to}
use Rattle.arena_rules.proofs.NewTops.{top_resized_by, no_weight}
use Rattle.arena_rules.proofs.Resizes.{grown_into_top_moved, beside_grown_into_top}
use Rattle.arena_rules.proofs.Rows.{NotFree}
use Rattle.arena_rules.proofs.TopMoves.{cut_moved}
use Rattle.arena_rules.proofs.Tops.{top_at}

end_is : (a : Plain) (t : Tile) → top_of a.tiles ≡ Some t → top_end a ≡ end_of t
end_is a t e = ap {B = ℕ} (λ o. elim o [ None ↦ 0 | Some t ↦ end_of t ]) e

-- ---- a chunk is cut off

cut_top : (a : Plain) (t : Tile) (nb : ℕ) → top_of a.tiles ≡ Some t → top_of (cut_from_top a nb).tiles ≡ Some (tile_of Top (t.addr + nb) (t.size - nb))
cut_top a t nb e =
    ap (λ o. top_of (elim o as (λ o. Plain) [ None ↦ a | Some t ↦ with_tiles a t.addr (tile_of Used t.addr nb ∷ tile_of Top (t.addr + nb) (t.size - nb) ∷ []) ]).tiles) e
    ∙ top_resized_by t (tile_of Top (t.addr + nb) (t.size - nb)) (tile_of Used t.addr nb ∷ tile_of Top (t.addr + nb) (t.size - nb) ∷ []) a.tiles e refl

pub cut_end : (a : Plain) (t : Tile) (nb : ℕ) → top_of a.tiles ≡ Some t → nb ≤ t.size → top_end (cut_from_top a nb) ≡ top_end a
cut_end a t nb e le = omega (arith, end_is a t e, end_is (cut_from_top a nb) (tile_of Top (t.addr + nb) (t.size - nb)) (cut_top a t nb e), le)

-- ---- a chunk becomes part of it

-- a tile that a look-up gives behind another one counts
behind_counts : (at : ℕ) (u : Tile) (ts : List Tile) → tile_behind at ts ≡ Some u → is_top u ≡ true → 0 < sum_by weight_top ts
behind_counts at u [] e top = absurd cc
behind_counts at u (t ∷ []) e top = absurd cc
behind_counts at u (t ∷ v ∷ vs) e top =
    let one = sum_by-cons weight_top t (v ∷ vs) in
    let two = sum_by-cons weight_top v vs in
    let cases : (b : Bool) → cond b (Some v) (tile_behind at (v ∷ vs)) ≡ Some u → 0 < sum_by weight_top (t ∷ v ∷ vs) = elim [
      | true ↦ λ h. let same : v ≡ u = cc in omega (arith, one, two, ap weight_top same ∙ ap {B = ℕ} (λ (b : Bool). cond b 1 0) top)
      | false ↦ λ h. omega (arith, one, behind_counts at u (v ∷ vs) h top)
    ] in
    cases (nat_eq t.addr at) e

fused_top : (at : ℕ) (x u : Tile) (ts : List Tile) → tile_behind at ts ≡ Some u → is_top u ≡ true → is_top x ≡ true → sum_by weight_top ts ≤ 1 → top_of (fused at x ts) ≡ Some x
fused_top at x u [] e top top_x le = absurd cc
fused_top at x u (t ∷ []) e top top_x le = absurd cc
fused_top at x u (t ∷ v ∷ vs) e top top_x le =
    let one = sum_by-cons weight_top t (v ∷ vs) in
    let cases : (b : Bool) → cond b (Some v) (tile_behind at (v ∷ vs)) ≡ Some u → top_of (cond b (x ∷ drop 1 (v ∷ vs)) (t ∷ fused at x (v ∷ vs))) ≡ Some x = elim [
      | true ↦ λ h. ap (λ b. cond b (Some x) (top_of (drop 1 (v ∷ vs)))) top_x
      | false ↦ λ h.
          let not_top : is_top t ≡ false = no_weight (is_top t) (omega (arith, one, le, behind_counts at u (v ∷ vs) h top)) in
          ap (λ b. cond b (Some t) (top_of (fused at x (v ∷ vs)))) not_top ∙ fused_top at x u (v ∷ vs) h top top_x (omega (arith, one, le))
    ] in
    cases (nat_eq t.addr at) e

record IsAbsorbedTop (a : Plain) (c : Chunk) : Type 0 where
  top : top_of (absorbed a c).tiles ≡ Some (tile_of Top c.at (c.size + top_size a))
  end : c.at + (c.size + top_size a) ≡ top_end a

absorbed_top : (a : Plain) (c : Chunk) → IsSound a → IsTrue (is_own a c) → is_before_top a c ≡ true → IsAbsorbedTop a c
absorbed_top a c s own is =
    let h : HasTopBehind a c = has_top_behind a c is in
    let t : Tile = tile_of Used c.at c.size in
    let next : AreNeighbours t h.tile a.tiles = neighbours_behind t h.tile a.tiles s.row (used_tile c a s.row (own_count a c own)) h.behind in
    let joins : c.at + c.size ≡ h.tile.addr = next.meets.joins refl in
    let top : top_of a.tiles ≡ Some h.tile = top_at a h.tile s next.second h.top in
    record {
      top = fused_top c.at (tile_of Top c.at (c.size + top_size a)) h.tile a.tiles h.behind h.top refl (omega (arith, top_to a h.tile.addr h.tile s next.second));
      end = omega (arith, joins, end_is a h.tile top, ap {B = ℕ} (λ o. elim o [ None ↦ 0 | Some t ↦ t.size ]) top);
    }

pub absorbed_end : (a : Plain) (c : Chunk) → IsSound a → IsTrue (is_own a c) → is_before_top a c ≡ true → top_end (absorbed a c) ≡ top_end a
absorbed_end a c s own is =
    let t : IsAbsorbedTop a c = absorbed_top a c s own is in
    end_is (absorbed a c) (tile_of Top c.at (c.size + top_size a)) t.top ∙ t.end

pub grown_into_top_end : (a : Plain) (c : Chunk) (nb : ℕ) → IsSound a → IsTrue (is_own a c) → fits_with_top a c nb ≡ true → top_end (grown_into_top a c nb) ≡ top_end a
grown_into_top_end a c nb s own is =
    let both = and_parts (is_before_top a c) (nat_le (nb + 32) (c.size + top_size a)) is in
    let t : IsAbsorbedTop a c = absorbed_top a c s own both.0 in
    cut_end (absorbed a c) (tile_of Top c.at (c.size + top_size a)) nb t.top (omega (arith, leb-true (nb + 32) (c.size + top_size a) both.1)) ∙ absorbed_end a c s own both.0

-- ---- another arena after these moves

pub heap_cut_placed : (a : Plain) (closed : List ℕ) (nb : ℕ) → IsSound a → IsHeapPlaced a closed → IsChunkSize nb → nb + 32 ≤ top_size a → IsHeapPlaced (cut_from_top a nb) closed
heap_cut_placed a closed nb s p chunk le =
    let t : HasLastTop a closed = last_top a closed p in
    heap_still a (cut_from_top a nb) _ _ closed (cut_moved a t.tile nb s t.top chunk (omega (arith, le, t.size))) (beside_cut a nb) (cut_end a t.tile nb t.top (omega (arith, le, t.size))) p

pub heap_absorbed_placed : (a : Plain) (closed : List ℕ) (c : Chunk) → IsSound a → IsHeapPlaced a closed → IsTrue (is_own a c) → is_before_top a c ≡ true → NotFree (tile_before c.at a.tiles) → IsHeapPlaced (absorbed a c) closed
heap_absorbed_placed a closed c s p own is before =
    heap_still a (absorbed a c) _ _ closed (absorbed_moved a c s own is before) refl (absorbed_end a c s own is) p

pub heap_grown_into_top_placed : (a : Plain) (closed : List ℕ) (c : Chunk) (nb : ℕ) → IsSound a → IsHeapPlaced a closed → IsTrue (is_own a c) → fits_with_top a c nb ≡ true → IsChunkSize nb → IsHeapPlaced (grown_into_top a c nb) closed
heap_grown_into_top_placed a closed c nb s p own is chunk =
    heap_still a (grown_into_top a c nb) _ _ closed (grown_into_top_moved a c nb s own is chunk) (beside_grown_into_top a c nb) (grown_into_top_end a c nb s own is) p
