-- What is read of the words of tiles.
use Rattle.std.proofs.Common.{◌≡◌, ℕ, ◌+◌, ◌-◌, ◌^◌, ◌<◌, Bool, true, false, Option, Some, None, sym, ap, ◌∙◌, refl, subst, inl, inr, arith}
use Rattle.std.specs.Prelude.{IsSome}
use Rattle.std.proofs.lemmas.Bool.{cases_lt, lt-ltb}
use Rattle.chunk_tags.specs.declared.tiles.Tile.{Tile}
use Rattle.chunk_tags.specs.declared.tiles.TileKind.{TileKind}
use Rattle.chunk_tags.specs.declared.tiles.TileKind.TheVariants.{Used, Free, Top, Fence}
use Rattle.chunk_tags.specs.Tiles.{is_free, is_edge, end_of, Row, tile_at, tile_before, tile_behind}
use Rattle.part_words.specs.Extents.{IsOpen}
use Rattle.part_words.specs.Parts.{Parts, extent_of}
use Rattle.chunk_image.specs.declared.heads.Head.{Head}
use Rattle.chunk_image.specs.Rows.{where_free, free_before_of}
use Rattle.chunk_image.specs.Heads.{head_at, foot_at, is_free_head, tiles_of, IsKept}
use Rattle.chunk_image.proofs.Rows.{free_edge, row_behind, row_before, before_found}
use Rattle.chunk_image.proofs.ScanLaws.{tile_with, tile_at-tiles_of, tile_at-below}
use Rattle.chunk_image.proofs.TileLaws.{Begins, begins, begins_with, begins_behind, IsOpen-begin}

-- the tile that a head says
abbrev pub tile_read : Parts Head → ℕ → Tile
tile_read heads at =
    record { addr = at; size = (head_at heads at).size; kind = (head_at heads at).kind }

pub some_of : (o : Option Tile) → IsSome o → (t : Tile) × (o ≡ Some t)
some_of None some = cc
some_of (Some t) some = (t, refl)

no_size : (h : Head) (at : ℕ) (t : Tile) → tile_with at h ≡ Some t → 0 < h.size
no_size h at t found =
    elim (cases_lt 0 h.size) [
      | inl some ↦ some
      | inr none ↦ let zero : h.size ≡ 0 = omega (arith, none) in
          let clash : None ≡ Some t = rw zero at found in
          cc
    ]

pub begins_read : (heads : Parts Head) (feet : Parts ℕ) (at : ℕ) → IsKept heads feet → IsSome (tile_at at (tiles_of heads)) → Begins heads (tile_read heads at)
begins_read heads feet at kept some =
    let t = some_of (tile_at at (tiles_of heads)) some in
    begins_with heads feet at kept (no_size (head_at heads at) at t.0 (sym (tile_at-tiles_of heads at (tile_at-below heads at t.0 t.1)) ∙ t.1))

-- the tile behind
pub record ReadsBehind (heads : Parts Head) (t : Tile) : Type 0 where
  pub place : IsOpen (extent_of heads) (end_of t)
  pub end : end_of t < 2 ^ 64
  pub read : tile_behind t.addr (tiles_of heads) ≡ Some (tile_read heads (end_of t))

pub behind_read : (heads : Parts Head) (feet : Parts ℕ) (t : Tile) → IsKept heads feet → Row (tiles_of heads) → tile_at t.addr (tiles_of heads) ≡ Some t → is_edge t ≡ false → ReadsBehind heads t
behind_read heads feet t kept row found no_edge =
    let next = row_behind t.addr (tiles_of heads) t row found no_edge in
    let b = begins heads feet t kept found in
    let u = begins_behind heads feet t next.0 kept b next.1 in
    let same : tile_read heads next.0.addr ≡ next.0 = ap (λ (h : Head). record { addr = next.0.addr; size = h.size; kind = h.kind }) u.head in
    record {
      place = subst (IsOpen (extent_of heads)) next.1.joins (IsOpen-begin heads next.0 u);
      end = omega (arith, b.room.end);
      read = next.1.behind ∙ ap Some (sym same ∙ ap (tile_read heads) next.1.joins);
    }

free_is : (t : Tile) → is_free t ≡ true → t.kind ≡ Free
free_is t = go t.kind refl
  where
    go : (k : TileKind) → t.kind ≡ k → is_free t ≡ true → t.kind ≡ Free
    go Used e free = let clash : false ≡ true = rw e at free in cc
    go Free e free = e
    go Top e free = let clash : false ≡ true = rw e at free in cc
    go Fence e free = let clash : false ≡ true = rw e at free in cc

-- where a free tile is before, there is a foot
foot_stands : (heads : Parts Head) (feet : Parts ℕ) (at : ℕ) (t : Tile) → IsKept heads feet → Row (tiles_of heads) → tile_before at (tiles_of heads) ≡ Some t → is_free t ≡ true → 0 < foot_at feet at
foot_stands heads feet at t kept row before free =
    let found = row_before at (tiles_of heads) t row before (free_edge t free) in
    let b = begins heads feet t kept found.0 in
    let is_free_here : is_free_head (head_at heads t.addr) ≡ true = rw (b.head, free_is t free, lt-ltb 0 t.size b.some) refl in
    let size : (head_at heads t.addr).size ≡ t.size = ap (λ (h : Head). h.size) b.head in
    let foot : foot_at feet (t.addr + t.size) ≡ t.size = rw size at (kept.footed.footed t.addr is_free_here) in
    subst (λ n. 0 < foot_at feet n) found.1 (omega (arith, foot, b.some))

pub no_free_before : (heads : Parts Head) (feet : Parts ℕ) (at : ℕ) → IsKept heads feet → Row (tiles_of heads) → foot_at feet at ≡ 0 → free_before_of at (tiles_of heads) ≡ None
no_free_before heads feet at kept row none = go (tile_before at (tiles_of heads)) refl
  where
    kind : (t : Tile) (b : Bool) → is_free t ≡ b → tile_before at (tiles_of heads) ≡ Some t → where_free (Some t) ≡ None
    kind t true e before = absurd (omega (arith, none, foot_stands heads feet at t kept row before e))
    kind t false e before = rw e refl

    go : (o : Option Tile) → tile_before at (tiles_of heads) ≡ o → where_free o ≡ None
    go None e = refl
    go (Some t) e = kind t (is_free t) refl e

pub free_before_read : (heads : Parts Head) (feet : Parts ℕ) (at : ℕ) → IsKept heads feet → Row (tiles_of heads) → IsSome (tile_at at (tiles_of heads)) → 0 < foot_at feet at → free_before_of at (tiles_of heads) ≡ Some (record { addr = at - foot_at feet at; size = foot_at feet at; kind = Free })
free_before_read heads feet at kept row some stands =
    let size = foot_at feet at in
    let x : Tile = record { addr = at - size; size = size; kind = Free } in
    let head : head_at heads (at - size) ≡ record { size = size; kind = Free } = kept.footed.meant at stands in
    let same : tile_read heads (at - size) ≡ x = ap (λ (h : Head). record { addr = at - size; size = h.size; kind = h.kind }) head in
    let b : Begins heads x = subst (Begins heads) same (begins_with heads feet (at - size) kept (omega (arith, stands, ap (λ (h : Head). h.size) head))) in
    let next = some_of (tile_at at (tiles_of heads)) some in
    ap where_free (before_found (at - size) at (tiles_of heads) x next.0 row b.found next.1 (omega (arith, kept.footed.below at)) stands)
