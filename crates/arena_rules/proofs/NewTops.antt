-- Laws of the top that a change of a row makes, for this crate and those above it: the look-up gives it. And what a change
-- leaves of the number of tiles.
use Rattle.std.proofs.Common.{◌≡◌, ℕ, ◌+◌, ◌<◌, Bool, true, false, cond, List, [], ◌∷◌, ◌++◌, length, Some, None, refl, sym, ap, ◌∙◌, arith}
use Rattle.std.specs.Prelude.{nat_eq, nat_lt, sum_by}
use Rattle.std.proofs.lemmas.Bool.{true≢false, eq-eqb}
use Rattle.std.proofs.lemmas.List.Sums.{sum_by-cons, sum_by-append}
use Rattle.chunk_tags.specs.Tiles.{is_top, swapped, entered, tile_at, top_of}
use Rattle.chunk_tags.specs.declared.tiles.Tile.{Tile}
use Rattle.arena_rules.proofs.Moved.{weight_top}

-- what counts for nothing is no top
pub no_weight : (b : Bool) → cond {A = ℕ} b 1 0 ≡ 0 → b ≡ false
no_weight true e = absurd (omega (arith, e))
no_weight false e = refl

-- where no tile is top, a top that enters is it
pub top_entered : (x : Tile) (ts : List Tile) → is_top x ≡ true → sum_by weight_top ts ≡ 0 → top_of (entered x ts) ≡ Some x
top_entered x [] top none = ap (λ b. cond b (Some x) None) top
top_entered x (t ∷ ts) top none =
    let one = sum_by-cons weight_top t ts in
    let not_top : is_top t ≡ false = no_weight (is_top t) (omega (arith, one, none)) in
    let cases : (b : Bool) → top_of (cond b (x ∷ t ∷ ts) (t ∷ entered x ts)) ≡ Some x = elim [
      | true ↦ ap (λ b. cond b (Some x) (top_of (t ∷ ts))) top
      | false ↦ ap (λ b. cond b (Some t) (top_of (entered x ts))) not_top ∙ top_entered x ts top (omega (arith, one, none))
    ] in
    cases (nat_lt x.addr t.addr)

-- and so is one that a tile becomes
pub top_swapped : (at : ℕ) (t x : Tile) (ts : List Tile) → tile_at at ts ≡ Some t → is_top x ≡ true → sum_by weight_top ts ≡ 0 → top_of (swapped at (x ∷ []) ts) ≡ Some x
top_swapped at t x [] found top none = absurd cc
top_swapped at t x (u ∷ us) found top none =
    let one = sum_by-cons weight_top u us in
    let not_top : is_top u ≡ false = no_weight (is_top u) (omega (arith, one, none)) in
    let cases : (b : Bool) → cond b (Some u) (tile_at at us) ≡ Some t → top_of (cond b (x ∷ us) (u ∷ swapped at (x ∷ []) us)) ≡ Some x = elim [
      | true ↦ λ h. ap (λ b. cond b (Some x) (top_of us)) top
      | false ↦ λ h. ap (λ b. cond b (Some u) (top_of (swapped at (x ∷ []) us))) not_top ∙ top_swapped at t x us h top (omega (arith, one, none))
    ] in
    cases (nat_eq u.addr at) found

-- top becomes tiles of which one is top
top_append : (y : Tile) (news us : List Tile) → top_of news ≡ Some y → top_of (news ++ us) ≡ Some y
top_append y [] us e = absurd cc
top_append y (x ∷ xs) us e =
    let cases : (b : Bool) → cond b (Some x) (top_of xs) ≡ Some y → cond b (Some x) (top_of (xs ++ us)) ≡ Some y = elim [
      | true ↦ λ h. h
      | false ↦ λ h. top_append y xs us h
    ] in
    cases (is_top x) e

pub top_resized_by : (t y : Tile) (news ts : List Tile) → top_of ts ≡ Some t → top_of news ≡ Some y → top_of (swapped t.addr news ts) ≡ Some y
top_resized_by t y news [] is new = absurd cc
top_resized_by t y news (u ∷ us) is new =
    let cases : (b d : Bool) → nat_eq u.addr t.addr ≡ b → is_top u ≡ d → cond d (Some u) (top_of us) ≡ Some t → top_of (cond b (news ++ us) (u ∷ swapped t.addr news us)) ≡ Some y = elim [
      | true ↦ λ d here kind h. top_append y news us new
      | false ↦ elim [
        | true ↦ λ here kind h.
            let same : u ≡ t = cc in
            absurd (true≢false (sym (eq-eqb u.addr t.addr (ap (λ (v : Tile). v.addr) same)) ∙ here))
        | false ↦ λ here kind h. ap (λ b. cond b (Some u) (top_of (swapped t.addr news us))) kind ∙ top_resized_by t y news us h new
      ]
    ] in
    cases (nat_eq u.addr t.addr) (is_top u) refl refl is

-- and so where it becomes one tile
pub top_resized : (t x : Tile) (ts : List Tile) → top_of ts ≡ Some t → is_top x ≡ true → top_of (swapped t.addr (x ∷ []) ts) ≡ Some x
top_resized t x ts is top = top_resized_by t x (x ∷ []) ts is (ap (λ b. cond b (Some x) None) top)

-- ---- sums and numbers of tiles

pub swapped_sum : (w : Tile → ℕ) (at : ℕ) (t : Tile) (news ts : List Tile) → tile_at at ts ≡ Some t → sum_by w (swapped at news ts) + w t ≡ sum_by w ts + sum_by w news
swapped_sum w at t news [] found = absurd cc
swapped_sum w at t news (u ∷ us) found =
    let one = sum_by-cons w u us in
    let cases : (b : Bool) → cond b (Some u) (tile_at at us) ≡ Some t → sum_by w (cond b (news ++ us) (u ∷ swapped at news us)) + w t ≡ sum_by w (u ∷ us) + sum_by w news = elim [
      | true ↦ λ h. let same : u ≡ t = cc in omega (arith, one, sum_by-append w news us, ap w same)
      | false ↦ λ h. omega (arith, one, sum_by-cons w u (swapped at news us), swapped_sum w at t news us h)
    ] in
    cases (nat_eq u.addr at) found

-- a tile that goes is one less
pub fewer_tiles : (at : ℕ) (t : Tile) (ts : List Tile) → tile_at at ts ≡ Some t → length (swapped at [] ts) < length ts
fewer_tiles at t [] found = absurd cc
fewer_tiles at t (u ∷ us) found =
    let cases : (b : Bool) → cond b (Some u) (tile_at at us) ≡ Some t → length (cond b us (u ∷ swapped at [] us)) < length (u ∷ us) = elim [
      | true ↦ λ h. omega arith
      | false ↦ λ h. omega (arith, fewer_tiles at t us h)
    ] in
    cases (nat_eq u.addr at) found

-- one that becomes another is none less, and none more
pub no_more_tiles : (at : ℕ) (x : Tile) (ts : List Tile) → length (swapped at (x ∷ []) ts) ≡ length ts
no_more_tiles at x [] = refl
no_more_tiles at x (u ∷ us) =
    let cases : (b : Bool) → length (cond b (x ∷ us) (u ∷ swapped at (x ∷ []) us)) ≡ length (u ∷ us) = elim [
      | true ↦ refl
      | false ↦ omega (arith, no_more_tiles at x us)
    ] in
    cases (nat_eq u.addr at)
