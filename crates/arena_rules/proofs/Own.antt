-- Laws of used chunks, for this crate and those above it: their sizes and places, and that no two have a byte in common.
use Rattle.std.proofs.Common.{◌≡◌, ℕ, ◌+◌, ◌-◌, ◌<◌, ◌≤◌, Bool, true, false, cond, List, [], ◌∷◌, Some, sym, ap, ◌∙◌, subst, inl, inr, arith}
use Rattle.std.specs.Prelude.{nat_eq, ◌⊎◌}
use Rattle.std.proofs.lemmas.Bool.{cases_order, cases_lt}
use Rattle.chunk_tags.specs.declared.tiles.Chunk.{Chunk}
use Rattle.chunk_tags.specs.Tunables.{main_limit}
use Rattle.chunk_tags.specs.Tiles.{end_of, IsTile, Row, tile_at}
use Rattle.chunk_tags.specs.declared.tiles.Tile.{Tile}
use Rattle.chunk_tags.specs.declared.tiles.TileKind.TheVariants.{Used, Free}
use Rattle.address_space.specs.Spaces.{main_start, piece_start}
use Rattle.arena_rules.specs.Moves.{tile_of}
use Rattle.arena_rules.specs.PlainArena.{Plain, IsSound, times_used, times_listed}
use Rattle.arena_rules.specs.MainPlaces.{times_covered, IsMainPlaced}
use Rattle.arena_rules.proofs.Rows.{behind_begins}
use Rattle.arena_rules.proofs.Counts.{used_tile}
use Rattle.arena_rules.proofs.Changes.{tile_is}
use Rattle.arena_rules.proofs.TopMoves.{all_at}
use Rattle.arena_rules.proofs.Covered.{covered_by, covers_one}
use Rattle.arena_rules.proofs.Lookups.{some_is}
use Rattle.arena_rules.proofs.MainPlaces.{uncovered}
use Rattle.arena_rules.proofs.ChunkMoves.{listed_tile}

-- ---- sizes and places

pub own_tile : (a : Plain) (c : Chunk) → IsSound a → 0 < times_used c a → IsTile (tile_of Used c.at c.size)
own_tile a c s own = tile_is (tile_of Used c.at c.size) a.tiles s.row (used_tile c a s.row own)

pub listed_tile_is : (a : Plain) (c : Chunk) → IsSound a → 0 < times_listed c a → IsTile (tile_of Free c.at c.size)
listed_tile_is a c s some = tile_is (tile_of Free c.at c.size) a.tiles s.row (listed_tile a c s some)

-- a tile of main lies in its windows
pub record IsInMain (at size : ℕ) : Type 0 where
  pub start : main_start ≤ at
  pub end : at + size ≤ piece_start + main_limit

pub tile_in_main : (a : Plain) (at : ℕ) (t : Tile) → IsSound a → IsMainPlaced a → IsTile t → tile_at at a.tiles ≡ Some t → IsInMain t.addr t.size
tile_in_main a at t s p tile e =
    let covered : (n : ℕ) → t.addr ≤ n → n < end_of t → 0 < times_covered n a = λ n ge lt. omega (arith, covered_by n at t a.tiles e, covers_one n t.addr t.size ge lt) in
    let last : ℕ = t.addr + (t.size - 1) in
    record {
      start = elim (cases_lt t.addr main_start) [
        | inl before ↦ absurd (omega (
          arith,
          covered t.addr (omega arith) (omega (arith, tile.size.0)),
          uncovered a t.addr p (record { break = inl before; pieces = inl (omega (arith, before, p.start, p.limit)) }),
        ))
        | inr within ↦ within
      ];
      end = elim (cases_lt (piece_start + main_limit) (end_of t)) [
        | inl past ↦ absurd (omega (
          arith,
          covered last (omega arith) (omega (arith, tile.size.0)),
          uncovered a last p (record { break = inr (omega (arith, past, p.limit)); pieces = inr (omega (arith, past, p.piece_limit)) }),
        ))
        | inr within ↦ within
      ];
    }

-- ---- no byte in common

-- of two tiles the one with the lower address ends first
pub tiles_in_order : (t u : Tile) (ts : List Tile) → Row ts → tile_at t.addr ts ≡ Some t → tile_at u.addr ts ≡ Some u → t.addr < u.addr → end_of t ≤ u.addr
tiles_in_order t u [] row at_t at_u lt = absurd cc
tiles_in_order t u (v ∷ vs) row at_t at_u lt =
    let begins = behind_begins v vs row in
    let cases : (b d : Bool) → cond b (Some v) (tile_at t.addr vs) ≡ Some t → cond d (Some v) (tile_at u.addr vs) ≡ Some u → end_of t ≤ u.addr = elim [
      | true ↦ elim [
        | true ↦ λ h k. let same : t ≡ u = cc in absurd (omega (arith, lt, ap (λ (x : Tile). x.addr) same))
        | false ↦ λ h k.
            let same : v ≡ t = some_is v t h in
            subst (λ (x : Tile). end_of x ≤ u.addr) same (all_at (λ x. end_of v ≤ x.addr) u.addr u vs begins k)
      ]
      | false ↦ elim [
        | true ↦ λ h k.
            let same : v ≡ u = some_is v u k in
            let ge : end_of v ≤ t.addr = all_at (λ x. end_of v ≤ x.addr) t.addr t vs begins h in
            absurd (omega (arith, lt, ge, ap (λ (x : Tile). x.addr) same))
        | false ↦ λ h k. tiles_in_order t u vs row.2 h k lt
      ]
    ] in
    cases (nat_eq v.addr t.addr) (nat_eq v.addr u.addr) at_t at_u

-- two used chunks are the same, or one ends before the other begins
pub own_apart : (a : Plain) (c d : Chunk) → IsSound a → 0 < times_used c a → 0 < times_used d a → (c ≡ d) ⊎ ((c.at + c.size ≤ d.at) ⊎ (d.at + d.size ≤ c.at))
own_apart a c d s one two =
    let t : Tile = tile_of Used c.at c.size in
    let u : Tile = tile_of Used d.at d.size in
    let at_t : tile_at c.at a.tiles ≡ Some t = used_tile c a s.row one in
    let at_u : tile_at d.at a.tiles ≡ Some u = used_tile d a s.row two in
    elim (cases_order c.at d.at) [
      | inl e ↦
          let size : c.size ≡ d.size = ap (λ (x : Tile). x.size) (some_is t u (sym at_t ∙ (ap (λ n. tile_at n a.tiles) e ∙ at_u))) in
          inl (λ i. record { at = e i; size = size i })
      | inr (inl lt) ↦ inr (inl (tiles_in_order t u a.tiles s.row at_t at_u lt))
      | inr (inr gt) ↦ inr (inr (tiles_in_order u t a.tiles s.row at_u at_t gt))
    ]
