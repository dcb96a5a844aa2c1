-- Laws of top in a row that changes, for this crate and those above it.
use Rattle.std.proofs.Common.{◌≡◌, ℕ, ◌+◌, ◌-◌, ◌%◌, ◌^◌, ◌<◌, ◌≤◌, Bool, true, false, cond, IsTrue, List, [], ◌∷◌, ◌++◌, Option, Some, None, refl, sym, ap, ◌∙◌, subst, inl, inr, arith}
use Rattle.std.specs.Prelude.{nat_eq, nat_lt, sum_by, drop, ◌⊎◌}
use Rattle.std.proofs.lemmas.Bool.{cond-true, cond-false, eq-eqb, leb-true, ne_eqb}
use Rattle.std.proofs.lemmas.List.Sums.{sum_by-cons}
use Rattle.chunk_tags.specs.Tunables.{main_limit}
use Rattle.address_space.specs.Spaces.{main_start}
use Rattle.chunk_tags.specs.Tiles.{end_of, Row, swapped, fused, entered, tile_at, tile_behind, top_of}
use Rattle.chunk_tags.specs.declared.tiles.Tile.{Tile}
use Rattle.chunk_tags.specs.declared.tiles.TileKind.TheVariants.{Used, Top, Fence}
use Rattle.chunk_tags.specs.declared.tiles.Chunk.{Chunk}
use Rattle.part_words.specs.Extents.{Extent}
use Rattle.chunk_image.specs.Rows.{IsRoom, IsWordSize}
use Rattle.chunk_image.proofs.Rows.{apart}
use Rattle.arena_rules.specs.PlainArena.{Plain, IsSound, tiled_bytes}
use Rattle.arena_rules.specs.MainPlaces.{covers, IsMainPlaced}
use Rattle.arena_rules.specs.HeapPlaces.{IsHeapPlaced}
use Rattle.arena_rules.specs.Moves.{tile_of, absorbed, closed_top, top_end, top_size, with_moved_top, with_new_top, with_tiles, with_top_size}
use Rattle.arena_rules.specs.Growth.{has_top_for}
use Rattle.arena_rules.proofs.Changes.{tile_is}
use Rattle.arena_rules.proofs.Covered.{covers_one, weight_byte}
use Rattle.arena_rules.proofs.Lookups.{swapped_other}
use Rattle.arena_rules.proofs.Rows.{addr_at}
use Rattle.arena_rules.proofs.Tops.{IsTopOf, top_at, top_found}
use Rattle.heap_top.specs.Regions.{address_of, closed_tiles, KnowsTop, HasTop}

-- ---- look-ups of a tile that came

append_at : (n : ℕ) (y : Tile) (news us : List Tile) → tile_at n news ≡ Some y → tile_at n (news ++ us) ≡ Some y
append_at n y [] us e = absurd cc
append_at n y (x ∷ xs) us e =
    let cases : (b : Bool) → cond b (Some x) (tile_at n xs) ≡ Some y → cond b (Some x) (tile_at n (xs ++ us)) ≡ Some y = elim [
      | true ↦ λ h. h
      | false ↦ λ h. append_at n y xs us h
    ] in
    cases (nat_eq x.addr n) e

-- a tile at the address of the one that it replaces, or where none was
pub came_at : (at n : ℕ) (news ts : List Tile) (t y : Tile) → tile_at at ts ≡ Some t → (n ≡ at) ⊎ (tile_at n ts ≡ None) → tile_at n news ≡ Some y → tile_at n (swapped at news ts) ≡ Some y
came_at at n news [] t y e free new = absurd cc
came_at at n news (u ∷ us) t y e free new =
    let later : nat_eq u.addr at ≡ false → tile_at at us ≡ Some t → tile_at n (u ∷ swapped at news us) ≡ Some y = λ is h.
    elim free [
      | inl here ↦ cond-false (nat_eq u.addr n) (Some u) (tile_at n (swapped at news us)) (ap (nat_eq u.addr) here ∙ is) ∙ came_at at n news us t y h (inl here) new
      | inr none ↦
          let cases : (b : Bool) → cond b (Some u) (tile_at n us) ≡ None → cond b (Some u) (tile_at n (swapped at news us)) ≡ Some y = elim [
            | true ↦ λ h. absurd cc
            | false ↦ λ h2. came_at at n news us t y h (inr h2) new
          ] in
          cases (nat_eq u.addr n) none
    ] in
    let cases : (b : Bool) → nat_eq u.addr at ≡ b → cond b (Some u) (tile_at at us) ≡ Some t → tile_at n (cond b (news ++ us) (u ∷ swapped at news us)) ≡ Some y = elim [
      | true ↦ λ is h. append_at n y news us new
      | false ↦ λ is h. later is h
    ] in
    cases (nat_eq u.addr at) refl e

pub fused_here : (at : ℕ) (x t : Tile) (ts : List Tile) → tile_at at ts ≡ Some t → x.addr ≡ at → tile_at at (fused at x ts) ≡ Some x
fused_here at x t [] e here = absurd cc
fused_here at x t (u ∷ us) e here =
    let cases : (b : Bool) → nat_eq u.addr at ≡ b → cond b (Some u) (tile_at at us) ≡ Some t → tile_at at (cond b (x ∷ drop 1 us) (u ∷ fused at x us)) ≡ Some x = elim [
      | true ↦ λ is h. cond-true (nat_eq x.addr at) (Some x) (tile_at at (drop 1 us)) (eq-eqb x.addr at here)
      | false ↦ λ is h. cond-false (nat_eq u.addr at) (Some u) (tile_at at (fused at x us)) is ∙ fused_here at x t us h here
    ] in
    cases (nat_eq u.addr at) refl e

pub entered_here : (x : Tile) (ts : List Tile) → tile_at x.addr ts ≡ None → tile_at x.addr (entered x ts) ≡ Some x
entered_here x [] e = cond-true (nat_eq x.addr x.addr) (Some x) None (eq-eqb x.addr x.addr refl)
entered_here x (t ∷ ts) e =
    let later : (b : Bool) → cond b (Some t) (tile_at x.addr ts) ≡ None → cond b (Some t) (tile_at x.addr (entered x ts)) ≡ Some x = elim [
      | true ↦ λ h. absurd cc
      | false ↦ λ h. entered_here x ts h
    ] in
    let cases : (b : Bool) → tile_at x.addr (cond b (x ∷ t ∷ ts) (t ∷ entered x ts)) ≡ Some x = elim [
      | true ↦ cond-true (nat_eq x.addr x.addr) (Some x) (tile_at x.addr (t ∷ ts)) (eq-eqb x.addr x.addr refl)
      | false ↦ later (nat_eq t.addr x.addr) e
    ] in
    cases (nat_lt x.addr t.addr)

-- no tile begins inside another one
pub none_inside : (n : ℕ) (t : Tile) (ts : List Tile) → Row ts → tile_at t.addr ts ≡ Some t → t.addr < n → n < end_of t → tile_at n ts ≡ None
none_inside n t ts row found lt end =
    let cases : (o : Option Tile) → tile_at n ts ≡ o → o ≡ None = elim [
      | None ↦ λ e. refl
      | Some u ↦ λ e. absurd (omega (arith, apart t.addr n ts t u row found e lt, end))
    ] in
    cases (tile_at n ts) refl

-- ---- where top is

pub record IsTopAt (at : ℕ) (ts : List Tile) : Type 0 where
  pub tile : Tile
  pub top : top_of ts ≡ Some tile
  pub found : tile_at at ts ≡ Some tile

pub top_read : (top : Option ℕ) (at : ℕ) (ts : List Tile) → KnowsTop top ts → top ≡ Some at → IsTopAt at ts
top_read top at ts k e =
    let cases : (o : Option Tile) → top_of ts ≡ o → address_of o ≡ Some at → IsTopAt at ts = elim [
      | None ↦ λ is h. absurd cc
      | Some t ↦ λ is h.
          let here : t.addr ≡ at = cc in
          record { tile = t; top = is; found = ap (λ n. tile_at n ts) (sym here) ∙ (top_found t ts k.row is).found }
    ] in
    cases (top_of ts) refl (k.is ∙ e)

-- the top that stands somewhere in a sound arena is its top
pub knows_top : (a : Plain) (top : Option ℕ) → IsSound a → HasTop top a.tiles → KnowsTop top a.tiles
knows_top a top s h = record {
  row = s.row;
  is = ap address_of (top_at a (tile_of Top h.at h.size) s h.stands refl) ∙ sym h.known;
}

-- ---- what the size of top is

pub top_size_is : (a : Plain) (t : Tile) → top_of a.tiles ≡ Some t → top_size a ≡ t.size
top_size_is a t e = ap (λ o. elim o [ None ↦ 0 | Some t ↦ t.size ]) e

pub top_end_is : (a : Plain) (t : Tile) → top_of a.tiles ≡ Some t → top_end a ≡ end_of t
top_end_is a t e = ap (λ o. elim o [ None ↦ 0 | Some t ↦ end_of t ]) e

pub has_room : (a : Plain) (t : Tile) (nb : ℕ) → top_of a.tiles ≡ Some t → IsTrue (has_top_for a nb) → nb + 32 ≤ t.size
has_room a t nb e room = omega (arith, leb-true (nb + 32) (top_size a) room, top_size_is a t e)

pub no_room : (a : Plain) (nb : ℕ) → top_of a.tiles ≡ None → IsTrue (has_top_for a nb) → ⊥
no_room a nb e room =
    let none : top_size a ≡ 0 = ap (λ o. elim o [ None ↦ 0 | Some t ↦ t.size ]) e in
    omega (arith, leb-true (nb + 32) (top_size a) room, none)

-- a tile weighs no more than all
pub tile_weighs : (w : Tile → ℕ) (at : ℕ) (t : Tile) (ts : List Tile) → tile_at at ts ≡ Some t → w t ≤ sum_by w ts
tile_weighs w at t [] e = absurd cc
tile_weighs w at t (u ∷ us) e =
    let one = sum_by-cons w u us in
    let cases : (b : Bool) → cond b (Some u) (tile_at at us) ≡ Some t → w t ≤ sum_by w (u ∷ us) = elim [
      | true ↦ λ h. let same : u ≡ t = cc in omega (arith, one, ap w same)
      | false ↦ λ h. omega (arith, one, tile_weighs w at t us h)
    ] in
    cases (nat_eq u.addr at) e

-- no tile begins at a byte that none has
-- a tile and the one behind it
pub neighbours_weigh : (w : Tile → ℕ) (at : ℕ) (t u : Tile) (ts : List Tile) → tile_at at ts ≡ Some t → tile_behind at ts ≡ Some u → w t + w u ≤ sum_by w ts
neighbours_weigh w at t u [] found behind = absurd cc
neighbours_weigh w at t u (x ∷ []) found behind = absurd cc
neighbours_weigh w at t u (x ∷ y ∷ ys) found behind =
    let one = sum_by-cons w x (y ∷ ys) in
    let two = sum_by-cons w y ys in
    let cases : (b : Bool) → cond b (Some x) (tile_at at (y ∷ ys)) ≡ Some t → cond b (Some y) (tile_behind at (y ∷ ys)) ≡ Some u → w t + w u ≤ sum_by w (x ∷ y ∷ ys) = elim [
      | true ↦ λ f g. let first : x ≡ t = cc in let second : y ≡ u = cc in omega (arith, one, two, ap w first, ap w second)
      | false ↦ λ f g. omega (arith, one, neighbours_weigh w at t u (y ∷ ys) f g)
    ] in
    cases (nat_eq x.addr at) found behind

-- main has at most the bytes of its windows
pub main_bytes : (a : Plain) → IsMainPlaced a → tiled_bytes a ≤ 2 ^ 31
main_bytes a f =
    omega (arith, f.tiled, f.system, f.limit, f.piece_limit, f.start, f.pieces)

pub pair_below : (ts : List Tile) (t u : Tile) (at : ℕ) → sum_by (λ (x : Tile). x.size) ts < 2 ^ 34 → tile_at at ts ≡ Some t → tile_behind at ts ≡ Some u → t.size + u.size < 2 ^ 34
pair_below ts t u at below found behind =
    omega (arith, below, neighbours_weigh (λ (x : Tile). x.size) at t u ts found behind)

pub uncovered_none : (n : ℕ) (ts : List Tile) → Row ts → sum_by (weight_byte n) ts ≡ 0 → tile_at n ts ≡ None
uncovered_none n ts row bare =
    let cases : (o : Option Tile) → tile_at n ts ≡ o → o ≡ None = elim [
      | None ↦ λ e. refl
      | Some u ↦ λ e.
          let found : tile_at u.addr ts ≡ Some u = ap (λ m. tile_at m ts) (addr_at n u ts e) ∙ e in
          absurd (omega (arith, bare, tile_weighs (weight_byte n) n u ts e, addr_at n u ts e, covers_one n u.addr u.size (omega (arith, addr_at n u ts e)) (omega (arith, addr_at n u ts e, (tile_is u ts row found).size.0))))
    ] in
    cases (tile_at n ts) refl

-- ---- top after each change

-- a chunk was cut off its front
pub cut_has_top : (t : Tile) (nb : ℕ) (ts : List Tile) → Row ts → top_of ts ≡ Some t → 0 < nb → nb < t.size → HasTop (Some (t.addr + nb)) (swapped t.addr (record t { size = nb; kind = Used } ∷ record { addr = t.addr + nb; size = t.size - nb; kind = Top } ∷ []) ts)
cut_has_top t nb ts row e some less =
    let f : IsTopOf t ts = top_found t ts row e in
    let x : Tile = record t { size = nb; kind = Used } in
    let y : Tile = tile_of Top (t.addr + nb) (t.size - nb) in
    let n : ℕ = t.addr + nb in
    record {
      at = n;
      size = t.size - nb;
      known = refl;
      stands = came_at t.addr n (x ∷ y ∷ []) ts t y f.found (inr (none_inside n t ts row f.found (omega (arith, some)) (omega (arith, less))))
          (cond-false (nat_eq t.addr n) (Some x) (tile_at n (y ∷ [])) (ne_eqb t.addr n (λ same. omega (arith, same, some))) ∙ cond-true (nat_eq n n) (Some y) None (eq-eqb n n refl));
    }

-- it has another size
pub sized_has_top : (top : Option ℕ) (t : Tile) (size : ℕ) (ts : List Tile) → KnowsTop top ts → top_of ts ≡ Some t → HasTop top (swapped t.addr (record t { size = size } ∷ []) ts)
sized_has_top top t size ts k e =
    let f : IsTopOf t ts = top_found t ts k.row e in
    let x : Tile = record t { size = size } in
    record {
      at = t.addr;
      size = size;
      known = sym k.is ∙ ap address_of e;
      stands = came_at t.addr t.addr (x ∷ []) ts t x f.found (inl refl) (cond-true (nat_eq t.addr t.addr) (Some x) None (eq-eqb t.addr t.addr refl))
          ∙ ap (λ (u : Tile). Some (record u { size = size })) f.is;
    }

pub sized_is : (a : Plain) (t : Tile) (size : ℕ) (ts : List Tile) → a.tiles ≡ ts → Row ts → top_of ts ≡ Some t → record a { tiles = swapped t.addr (record t { size = size } ∷ []) ts } ≡ with_top_size a size
sized_is a t size ts same row e =
    let f : IsTopOf t ts = top_found t ts row e in
    let top : top_of a.tiles ≡ Some t = ap top_of same ∙ e in
    ap (λ (u : Tile). record a { tiles = swapped t.addr (record u { size = size } ∷ []) ts }) f.is
    ∙ (ap (λ us. record a { tiles = swapped t.addr (tile_of Top t.addr size ∷ []) us }) (sym same)
    ∙ ap (λ o. elim o [ None ↦ a | Some t ↦ with_tiles a t.addr (tile_of Top t.addr size ∷ []) ]) (sym top))

-- a used chunk became part of it
pub absorbed_is : (a : Plain) (c : Chunk) (u : Tile) → top_of a.tiles ≡ Some u → record a { tiles = fused c.at (tile_of Top c.at (c.size + u.size)) a.tiles } ≡ absorbed a c
absorbed_is a c u e = ap (λ n. record a { tiles = fused c.at (tile_of Top c.at (c.size + n)) a.tiles }) (sym (top_size_is a u e))

-- ---- a top that is left

-- no part of it begins where no tile has a byte
pub closed_none : (n : ℕ) (t : Tile) (ts : List Tile) → Row ts → top_of ts ≡ Some t → sum_by (weight_byte n) ts ≡ 0 → tile_at n (swapped t.addr (closed_top t) ts) ≡ None
closed_none n t ts row e bare =
    let f : IsTopOf t ts = top_found t ts row e in
    let size : 32 ≤ t.size = (tile_is t ts row f.found).size.0 in
    let out : covers n t.addr t.size ≡ 0 = omega (arith, bare, tile_weighs (weight_byte n) t.addr t ts f.found) in
    let apart : (m : ℕ) → t.addr ≤ m → m < end_of t → nat_eq m n ≡ false = λ m ge lt.
    ne_eqb m n (λ same. omega (arith, out, covers_one n t.addr t.size (omega (arith, ge, same)) (omega (arith, lt, same)))) in
    let parts : tile_at n (closed_top t) ≡ None =
    let cases : (b : Bool) → nat_lt t.size 64 ≡ b → tile_at n (cond b (tile_of Fence t.addr t.size ∷ []) (tile_of Used t.addr (t.size - 32) ∷ tile_of Fence (t.addr + (t.size - 32)) 32 ∷ [])) ≡ None = elim [
      | true ↦ λ is. cond-false (nat_eq t.addr n) (Some (tile_of Fence t.addr t.size)) None (apart t.addr (omega arith) (omega (arith, size)))
      | false ↦ λ is. cond-false (nat_eq t.addr n) (Some (tile_of Used t.addr (t.size - 32))) _ (apart t.addr (omega arith) (omega (arith, size)))
          ∙ cond-false (nat_eq (t.addr + (t.size - 32)) n) (Some (tile_of Fence (t.addr + (t.size - 32)) 32)) None (apart (t.addr + (t.size - 32)) (omega arith) (omega (arith, size)))
    ] in
    cases (nat_lt t.size 64) refl in
    swapped_other t.addr n (closed_top t) ts (λ same. omega (arith, out, covers_one n t.addr t.size (omega (arith, same)) (omega (arith, same, size)))) parts ∙ uncovered_none n ts row bare

pub same_found : (at : ℕ) (ts : List Tile) (t u : Tile) → tile_at at ts ≡ Some t → tile_at at ts ≡ Some u → u ≡ t
same_found at ts t u e h = cc

pub no_top_size : (a : Plain) → top_of a.tiles ≡ None → top_size a ≡ 0
no_top_size a e = ap (λ o. elim o [ None ↦ 0 | Some t ↦ t.size ]) e

pub no_top_end : (a : Plain) → top_of a.tiles ≡ None → top_end a ≡ 0
no_top_end a e = ap (λ o. elim o [ None ↦ 0 | Some t ↦ end_of t ]) e

-- what a longer top needs
pub longer_room : (e : Extent) (t : Tile) (size growth end : ℕ) → size ≡ t.size → end ≡ end_of t → IsRoom e end growth → IsRoom e (end_of t) (size + growth - t.size)
longer_room e t size growth end same here room =
    let more : growth ≡ size + growth - t.size = omega (arith, same) in
    subst (IsRoom e (end_of t)) more (subst (λ n. IsRoom e n growth) here room)

pub closed_tiles_none : (n : ℕ) (ts : List Tile) → Row ts → sum_by (weight_byte n) ts ≡ 0 → tile_at n (closed_tiles ts) ≡ None
closed_tiles_none n ts row bare =
    let cases : (o : Option Tile) → top_of ts ≡ o → tile_at n (elim o [ None ↦ ts | Some t ↦ swapped t.addr (closed_top t) ts ]) ≡ None = elim [
      | None ↦ λ e. uncovered_none n ts row bare
      | Some t ↦ λ e. closed_none n t ts row e bare
    ] in
    cases (top_of ts) refl

pub moved_is : (a : Plain) (at size : ℕ) → record a { tiles = entered (tile_of Top at size) (closed_tiles a.tiles) } ≡ with_moved_top a at size
moved_is a at size =
    let cases : (o : Option Tile) → record a { tiles = entered (tile_of Top at size) (elim o [ None ↦ a.tiles | Some t ↦ swapped t.addr (closed_top t) a.tiles ]) } ≡ elim o [ None ↦ with_new_top a at size | Some t ↦ with_new_top (with_tiles a t.addr (closed_top t)) at size ] = elim [ None ↦ refl | Some t ↦ refl ] in
    cases (top_of a.tiles)

-- a top that grows so that all tiles have less than 16 GiB has a size that a word can say
pub grown_top_fits : (a : Plain) (growth : ℕ) → Row a.tiles → growth % 4096 ≡ 0 → tiled_bytes a + growth < 2 ^ 34 → IsWordSize (top_size a + growth)
grown_top_fits a growth row pages below = go (top_of a.tiles) refl
  where
    go : (o : Option Tile) → top_of a.tiles ≡ o → IsWordSize (top_size a + growth)
    go None none = record {
      whole = omega (arith, pages, no_top_size a none);
      below = omega (arith, below, no_top_size a none);
    }
    go (Some t) top =
        let found = (top_found t a.tiles row top).found in
        let size = top_size_is a t top in
        record {
          whole = omega (arith, pages, size, (tile_is _ _ row found).size.1);
          below = omega (arith, below, size, tile_weighs (λ (x : Tile). x.size) t.addr t a.tiles found);
        }

-- the bytes by which top grows within main's window
pub main_grown : (a : Plain) (growth : ℕ) → IsMainPlaced a → a.break_at + growth ≤ main_start + main_limit → tiled_bytes a + growth < 2 ^ 34
main_grown a growth f window = omega (arith, main_bytes a f, window, f.start)

-- ---- heaps where only bins change

-- the heaps of an arena stay where its bins, its last remainder or its most bytes change
pub heaps_beside : (a : Plain) (closed : List ℕ) (bins : List (List Chunk)) (last : Option ℕ) (most : ℕ) → IsHeapPlaced a closed → IsHeapPlaced (record a { bins = bins; last = last; most = most }) closed
heaps_beside a closed bins last most p = record {
  other = p.other;
  number = p.number;
  windows = p.windows;
  filled = p.filled;
  each = p.each;
  last = p.last;
  top = p.top;
  count = p.count;
  system = p.system;
  tiled = p.tiled;
}
