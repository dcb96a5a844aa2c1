-- Laws on how often a chunk stands in a row, for this crate and those above it: at most once, and where it does, it is
-- the tile at its address.
use Rattle.std.proofs.Common.{◌≡◌, ℕ, ◌+◌, ◌<◌, ◌≤◌, Bool, true, false, ◌&&◌, cond, List, [], ◌∷◌, Option, Some, None, refl, sym, ap, ◌∙◌, subst, arith}
use Rattle.std.specs.Prelude.{nat_eq, sum_by}
use Rattle.std.specs.List.{AllByRecursion}
use Rattle.std.proofs.lemmas.Bool.{eqb-true, ne_eqb, eq-eqb, and_left, and_right, and_from, and_parts}
use Rattle.std.proofs.lemmas.List.Sums.{sum_by-cons}
use Rattle.chunk_tags.specs.declared.tiles.Chunk.{Chunk}
use Rattle.chunk_tags.specs.Tiles.{is_used, is_free, Row, tile_at}
use Rattle.chunk_tags.specs.declared.tiles.Tile.{Tile}
use Rattle.chunk_tags.specs.declared.tiles.TileKind.{TileKind}
use Rattle.chunk_tags.specs.declared.tiles.TileKind.TheVariants.{Used, Free, Top, Fence}
use Rattle.arena_rules.specs.Moves.{tile_of}
use Rattle.arena_rules.specs.PlainArena.{Plain, is_chunk, times_tiled, times_used}
use Rattle.arena_rules.proofs.Rows.{onto, Ends, Begins, begins_above, front_ends, behind_begins, row_behind, sum_by_onto, Stands, stands, addr_at}

-- 1 for a tile of a kind that is a chunk, else 0
abbrev pub weight : (Tile → Bool) → Chunk → Tile → ℕ
weight kind c t = cond (kind t && is_chunk c t) 1 0

weight_elsewhere : (kind : Tile → Bool) (c : Chunk) (t : Tile) → (c.at ≡ t.addr → ⊥) → weight kind c t ≡ 0
weight_elsewhere kind c t ne = ap (λ (b : Bool). cond b 1 0) (and_right (kind t) (is_chunk c t) (and_left (nat_eq c.at t.addr) (nat_eq c.size t.size) (ne_eqb c.at t.addr ne)))

none_in : (kind : Tile → Bool) (c : Chunk) (ts : List Tile) → AllByRecursion (λ t. c.at ≡ t.addr → ⊥) ts → sum_by (weight kind c) ts ≡ 0
none_in kind c [] all = refl
none_in kind c (t ∷ ts) all = omega (arith, sum_by-cons (weight kind c) t ts, weight_elsewhere kind c t all.0, none_in kind c ts all.1)

none_at : (at : ℕ) (ts : List Tile) → tile_at at ts ≡ None → AllByRecursion (λ t. at ≡ t.addr → ⊥) ts
none_at at [] e = tt
none_at at (t ∷ ts) e =
    let cases : (b : Bool) → nat_eq t.addr at ≡ b → cond b (Some t) (tile_at at ts) ≡ None → AllByRecursion (λ t. at ≡ t.addr → ⊥) (t ∷ ts) = elim [
      | true ↦ λ is h. absurd cc
      | false ↦ λ is h. (λ same. let yes : nat_eq t.addr at ≡ true = eq-eqb t.addr at (sym same) in absurd cc, none_at at ts h)
    ] in
    cases (nat_eq t.addr at) refl e

none_in_front : (at : ℕ) (ls : List Tile) → Ends at ls → AllByRecursion (λ t. at ≡ t.addr → ⊥) ls
none_in_front at [] e = tt
none_in_front at (l ∷ ls) e = (λ same. omega (arith, e.0), none_in_front at ls e.1)

none_behind : (at : ℕ) (us : List Tile) → Begins (at + 1) us → AllByRecursion (λ t. at ≡ t.addr → ⊥) us
none_behind at [] b = tt
none_behind at (u ∷ us) b = (λ same. omega (arith, b.0), none_behind at us b.1)

-- what a look-up counts for
abbrev pub weight_at : (Tile → Bool) → Chunk → Option Tile → ℕ
weight_at kind c None = 0
weight_at kind c (Some t) = weight kind c t

pub counted : (kind : Tile → Bool) (c : Chunk) (ts : List Tile) → Row ts → sum_by (weight kind c) ts ≡ weight_at kind c (tile_at c.at ts)
counted kind c ts row =
    let cases : (o : Option Tile) → tile_at c.at ts ≡ o → sum_by (weight kind c) ts ≡ weight_at kind c o = elim [
      | None ↦ λ e. none_in kind c ts (none_at c.at ts e)
      | Some t ↦ λ e.
          let s : Stands t ts = stands c.at t ts e in
          let here : t.addr ≡ c.at = addr_at c.at t ts e in
          let whole : Row (onto s.front (t ∷ s.behind)) = subst Row s.is row in
          let front : AllByRecursion (λ u. c.at ≡ u.addr → ⊥) s.front = none_in_front c.at s.front (subst (λ n. Ends n s.front) here (front_ends s.front t s.behind whole)) in
          let rest : Row (t ∷ s.behind) = row_behind s.front (t ∷ s.behind) whole in
          let back : AllByRecursion (λ u. c.at ≡ u.addr → ⊥) s.behind = none_behind c.at s.behind (begins_above (t.addr + t.size) (c.at + 1) s.behind (omega (arith, rest.0.size.0)) (behind_begins t s.behind rest)) in
          omega (
            arith,
            ap (sum_by (weight kind c)) s.is,
            sum_by_onto (weight kind c) s.front (t ∷ s.behind),
            sum_by-cons (weight kind c) t s.behind,
            none_in kind c s.front front,
            none_in kind c s.behind back,
          )
    ] in
    cases (tile_at c.at ts) refl

-- a chunk is the tile of a kind at its address
pub record IsTiled (kind : Tile → Bool) (c : Chunk) (ts : List Tile) : Type 0 where
  pub tile : Tile
  pub found : tile_at c.at ts ≡ Some tile
  pub kind_is : kind tile ≡ true
  pub at : tile.addr ≡ c.at
  pub size : tile.size ≡ c.size

pub tiled : (kind : Tile → Bool) (c : Chunk) (ts : List Tile) → Row ts → 0 < sum_by (weight kind c) ts → IsTiled kind c ts
tiled kind c ts row some =
    let count : 0 < weight_at kind c (tile_at c.at ts) = omega (arith, counted kind c ts row) in
    let cases : (o : Option Tile) → tile_at c.at ts ≡ o → 0 < weight_at kind c o → IsTiled kind c ts = elim [
      | None ↦ λ e h. absurd (omega arith)
      | Some t ↦ λ e h.
          let both : (b : Bool) → (kind t && is_chunk c t) ≡ b → 0 < cond b 1 0 → IsTiled kind c ts = elim [
            | true ↦ λ yes _.
                let p = and_parts (kind t) (is_chunk c t) yes in
                let q = and_parts (nat_eq c.at t.addr) (nat_eq c.size t.size) p.1 in
                record { tile = t; found = e; kind_is = p.0; at = sym (eqb-true c.at t.addr q.0); size = sym (eqb-true c.size t.size q.1) }
            | false ↦ λ no lt. absurd (omega arith)
          ] in
          both (kind t && is_chunk c t) refl h
    ] in
    cases (tile_at c.at ts) refl count

-- no chunk is two tiles
weight_le : (kind : Tile → Bool) (c : Chunk) (o : Option Tile) → weight_at kind c o ≤ 1
weight_le kind c None = omega arith
weight_le kind c (Some t) =
    let cases : (b : Bool) → cond b 1 0 ≤ 1 = elim [ true ↦ omega arith | false ↦ omega arith ] in
    cases (kind t && is_chunk c t)

pub at_most_once : (kind : Tile → Bool) (c : Chunk) (ts : List Tile) → Row ts → sum_by (weight kind c) ts ≤ 1
at_most_once kind c ts row = omega (arith, counted kind c ts row, weight_le kind c (tile_at c.at ts))

-- ---- used and free tiles

pub used_kind : (k : TileKind) → elim k [ Used ↦ true | Free ↦ false | Top ↦ false | Fence ↦ false ] ≡ true → k ≡ Used
used_kind Used e = refl
used_kind Free e = absurd cc
used_kind Top e = absurd cc
used_kind Fence e = absurd cc

pub free_kind : (k : TileKind) → elim k [ Used ↦ false | Free ↦ true | Top ↦ false | Fence ↦ false ] ≡ true → k ≡ Free
free_kind Used e = absurd cc
free_kind Free e = refl
free_kind Top e = absurd cc
free_kind Fence e = absurd cc

pub same_tile : (t : Tile) (kind : TileKind) (at size : ℕ) → t.kind ≡ kind → t.addr ≡ at → t.size ≡ size → t ≡ tile_of kind at size
same_tile t kind at size k a s = λ i. record { addr = a i; size = s i; kind = k i }

-- a used chunk is a used tile, and the other way round
pub used_tile : (c : Chunk) (a : Plain) → Row a.tiles → 0 < times_used c a → tile_at c.at a.tiles ≡ Some (tile_of Used c.at c.size)
used_tile c a row some =
    let t = tiled is_used c a.tiles row some in
    t.found ∙ ap (λ (x : Tile). Some x) (same_tile t.tile Used c.at c.size (used_kind t.tile.kind t.kind_is) t.at t.size)

pub free_tile : (c : Chunk) (a : Plain) → Row a.tiles → 0 < times_tiled is_free c a → tile_at c.at a.tiles ≡ Some (tile_of Free c.at c.size)
free_tile c a row some =
    let t = tiled is_free c a.tiles row some in
    t.found ∙ ap (λ (x : Tile). Some x) (same_tile t.tile Free c.at c.size (free_kind t.tile.kind t.kind_is) t.at t.size)

-- a tile of a kind is a chunk of it, exactly once
pub once_tiled : (kind : Tile → Bool) (t : Tile) (ts : List Tile) → Row ts → kind t ≡ true → tile_at t.addr ts ≡ Some t → sum_by (weight kind (record { at = t.addr; size = t.size })) ts ≡ 1
once_tiled kind t ts row is e =
    let c : Chunk = record { at = t.addr; size = t.size } in
    counted kind c ts row ∙ (ap (weight_at kind c) e ∙ ap (λ (b : Bool). cond b 1 0) (and_from (kind t) (is_chunk c t) is (and_from (nat_eq t.addr t.addr) (nat_eq t.size t.size) (eq-eqb t.addr t.addr refl) (eq-eqb t.size t.size refl))))
