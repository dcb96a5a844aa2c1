-- Laws of the top of a row, for this crate and those above it: the look-up of top gives the one tile that is top.
use Rattle.std.proofs.Common.{◌≡◌, ℕ, ◌<◌, ◌≤◌, Bool, true, false, cond, List, [], ◌∷◌, Some, None, refl, sym, ap, ◌∙◌, subst, arith}
use Rattle.std.specs.Prelude.{nat_eq, sum_by}
use Rattle.std.proofs.lemmas.List.Sums.{sum_by-cons}
use Rattle.chunk_tags.specs.Tiles.{is_top, Row, tile_at, top_of}
use Rattle.chunk_tags.specs.declared.tiles.Tile.{Tile}
use Rattle.chunk_tags.specs.declared.tiles.TileKind.{TileKind}
use Rattle.chunk_tags.specs.declared.tiles.TileKind.TheVariants.{Used, Free, Top, Fence}
use Rattle.arena_rules.specs.PlainArena.{Plain, IsSound}
use Rattle.arena_rules.specs.Moves.{tile_of}
use Rattle.arena_rules.proofs.Rows.{onto, read}
use Rattle.arena_rules.proofs.Counts.{same_tile}
use Rattle.arena_rules.proofs.Moved.{weight_top, top_to}

top_kind : (k : TileKind) → is_top (tile_of k 0 0) ≡ true → k ≡ Top
top_kind Used e = absurd cc
top_kind Free e = absurd cc
top_kind Top e = refl
top_kind Fence e = absurd cc

-- what is top is a tile of that kind
pub top_tile_is : (t : Tile) → is_top t ≡ true → t ≡ tile_of Top t.addr t.size
top_tile_is t top = same_tile t Top t.addr t.size (top_kind t.kind top) refl refl

-- a tile that a look-up gives counts
counted_in : (at : ℕ) (t : Tile) (ts : List Tile) → tile_at at ts ≡ Some t → is_top t ≡ true → 0 < sum_by weight_top ts
counted_in at t [] e top = absurd cc
counted_in at t (u ∷ us) e top =
    let one = sum_by-cons weight_top u us in
    let cases : (b : Bool) → cond b (Some u) (tile_at at us) ≡ Some t → 0 < sum_by weight_top (u ∷ us) = elim [
      | true ↦ λ h. let same : u ≡ t = cc in omega (arith, one, ap weight_top same ∙ ap {B = ℕ} (λ (b : Bool). cond b 1 0) top)
      | false ↦ λ h. omega (arith, one, counted_in at t us h top)
    ] in
    cases (nat_eq u.addr at) e

top_is : (at : ℕ) (t : Tile) (ts : List Tile) → tile_at at ts ≡ Some t → is_top t ≡ true → sum_by weight_top ts ≤ 1 → top_of ts ≡ Some t
top_is at t [] e top le = absurd cc
top_is at t (u ∷ us) e top le =
    let one = sum_by-cons weight_top u us in
    let cases : (b d : Bool) → is_top u ≡ b → cond d (Some u) (tile_at at us) ≡ Some t → cond b (Some u) (top_of us) ≡ Some t = elim [
      | true ↦ elim [
        | true ↦ λ is h. h
        | false ↦ λ is h. absurd (omega (arith, one, le, counted_in at t us h top, ap {B = ℕ} (λ (b : Bool). cond b 1 0) is))
      ]
      | false ↦ elim [
        | true ↦ λ is h. let same : u ≡ t = cc in let no : is_top t ≡ false = ap is_top (sym same) ∙ is in absurd cc
        | false ↦ λ is h. top_is at t us h top (omega (arith, one, le))
      ]
    ] in
    cases (is_top u) (nat_eq u.addr at) refl e

-- the tile at an address that is top is the top that a look-up gives
pub top_at : (a : Plain) (t : Tile) → IsSound a → tile_at t.addr a.tiles ≡ Some t → is_top t ≡ true → top_of a.tiles ≡ Some t
top_at a t s at top = top_is t.addr t a.tiles at top (omega (arith, top_to a t.addr t s at))

record IsTopIn (t : Tile) (ls ts : List Tile) : Type 0 where
  front : List Tile
  behind : List Tile
  is : onto ls ts ≡ onto front (t ∷ behind)
  top : is_top t ≡ true

top_in : (t : Tile) (ls ts : List Tile) → top_of ts ≡ Some t → IsTopIn t ls ts
top_in t ls [] e = absurd cc
top_in t ls (u ∷ us) e =
    let cases : (b : Bool) → is_top u ≡ b → cond b (Some u) (top_of us) ≡ Some t → IsTopIn t ls (u ∷ us) = elim [
      | true ↦ λ is h. let same : u ≡ t = cc in record { front = ls; behind = us; is = ap (λ (x : Tile). onto ls (x ∷ us)) same; top = ap is_top (sym same) ∙ is }
      | false ↦ λ is h. let f = top_in t (u ∷ ls) us h in record { front = f.front; behind = f.behind; is = f.is; top = f.top }
    ] in
    cases (is_top u) refl e

-- the top that a look-up gives is the tile at its address, and top
pub record IsTopOf (t : Tile) (ts : List Tile) : Type 0 where
  pub found : tile_at t.addr ts ≡ Some t
  pub top : is_top t ≡ true
  pub is : t ≡ tile_of Top t.addr t.size

pub top_found : (t : Tile) (ts : List Tile) → Row ts → top_of ts ≡ Some t → IsTopOf t ts
top_found t ts row e =
    let f = top_in t [] ts e in
    record {
      found = ap (tile_at t.addr) f.is ∙ (read f.front t f.behind (subst Row f.is row)).at;
      top = f.top;
      is = top_tile_is t f.top;
    }

-- where a look-up gives no top there is none
pub no_top : (ts : List Tile) → top_of ts ≡ None → sum_by weight_top ts ≡ 0
no_top [] e = refl
no_top (t ∷ ts) e =
    let one = sum_by-cons weight_top t ts in
    let cases : (b : Bool) → is_top t ≡ b → cond b (Some t) (top_of ts) ≡ None → sum_by weight_top (t ∷ ts) ≡ 0 = elim [
      | true ↦ λ is h. absurd cc
      | false ↦ λ is h. omega (arith, one, no_top ts h, ap {B = ℕ} (λ (b : Bool). cond b 1 0) is)
    ] in
    cases (is_top t) refl e
