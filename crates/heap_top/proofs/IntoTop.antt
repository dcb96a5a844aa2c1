-- Laws of a used chunk that grows into the top behind it, for this crate and those above it.
use Rattle.std.proofs.Common.{◌≡◌, ℕ, ◌+◌, ◌-◌, ◌<◌, Bool, true, false, cond, List, [], ◌∷◌, Option, Some, None, refl, sym, ap, ◌∙◌, arith}
use Rattle.std.proofs.lemmas.Bool.{eq-eqb, ne_eqb}
use Rattle.chunk_tags.specs.declared.tiles.Chunk.{Chunk}
use Rattle.chunk_tags.specs.Tiles.{is_top, end_of, Row, swapped, fused, tile_at, tile_behind, top_of}
use Rattle.chunk_tags.specs.declared.tiles.Tile.{Tile}
use Rattle.chunk_tags.specs.declared.tiles.TileKind.TheVariants.{Used, Top}
use Rattle.chunk_image.proofs.Rows.{IsSpread, spread, spread_below, spread_behind, tile_at_cases, behind_cases}
use Rattle.arena_rules.specs.PlainArena.{Plain}
use Rattle.arena_rules.specs.Moves.{tile_of, with_tiles}
use Rattle.arena_rules.specs.Resize.{grown_into_top}
use Rattle.arena_rules.proofs.Tops.{IsTopOf, top_found}
use Rattle.heap_top.specs.Regions.{HasTop}
use Rattle.heap_top.proofs.TopLaws.{top_size_is}

-- a used chunk with top behind it
pub record IsBeforeTop (c : Chunk) (u : Tile) (ts : List Tile) : Type 0 where
  pub row : Row ts
  pub found : tile_at c.at ts ≡ Some (tile_of Used c.at c.size)
  pub behind : tile_behind c.at ts ≡ Some u
  pub top : top_of ts ≡ Some u

-- the tiles with the border between both shifted
abbrev pub grown_tiles : Chunk → Tile → ℕ → List Tile → List Tile
grown_tiles c u nb ts =
    swapped c.at (tile_of Used c.at nb ∷ record u { addr = c.at + nb; size = c.size + u.size - nb } ∷ []) (fused c.at (record u { addr = c.at; size = c.size + u.size }) ts)

-- the second of two tiles that came in the place of two
came_second : (from at : ℕ) (ts : List Tile) (t x y m : Tile) → IsSpread from ts → tile_at at ts ≡ Some t → x.addr ≡ at → m.addr ≡ at → at < y.addr → tile_at y.addr (swapped at (x ∷ y ∷ []) (fused at m ts)) ≡ Some y
came_second from at [] t x y m s found ex em lo = cc
came_second from at (z ∷ zs) t x y m s found ex em lo =
    tile_at_cases (λ o. o ≡ Some t → tile_at y.addr (swapped at (x ∷ y ∷ []) (fused at m (z ∷ zs))) ≡ Some y) at z zs
    (λ ez _. rw (eq-eqb z.addr at ez, eq-eqb m.addr at em) (rw (ne_eqb x.addr y.addr (λ e. omega (arith, e, ex, lo)), eq-eqb y.addr y.addr refl) refl))
    (λ other rest. rw (ne_eqb z.addr at other) (rw (ne_eqb z.addr at other) (rw (ne_eqb z.addr y.addr (λ e. omega (arith, e, lo, s.1, spread_below (end_of z) at zs t s.2 rest)))
    (came_second (end_of z) at zs t x y m s.2 rest ex em lo)))) found

-- where both are one top, that is the first
top_here : (from at n : ℕ) (ts : List Tile) (u : Tile) → IsSpread from ts → tile_behind at ts ≡ Some u → top_of ts ≡ Some u → top_of (fused at (tile_of Top at n) ts) ≡ Some (tile_of Top at n)
top_here from at n [] u s behind top = cc
top_here from at n (z ∷ []) u s behind top = cc
top_here from at n (z ∷ w ∷ ws) u s behind top =
    let m : Tile = tile_of Top at n in
    behind_cases (λ o. o ≡ Some u → top_of (fused at m (z ∷ w ∷ ws)) ≡ Some m) at z w ws (λ ez _. rw (eq-eqb z.addr at ez) refl)
    (λ other rest.
    let past : end_of z < u.addr = spread_behind (end_of z) at (w ∷ ws) u s.2 rest in
    let cases : (b : Bool) → cond b (Some z) (top_of (w ∷ ws)) ≡ Some u → cond b (Some z) (top_of (fused at m (w ∷ ws))) ≡ Some m = elim [
      | true ↦ λ h. let same : z ≡ u = cc in absurd (omega (arith, past, ap (λ (v : Tile). v.addr) same))
      | false ↦ λ h. top_here (end_of z) at n (w ∷ ws) u s.2 rest h
    ] in
    rw (ne_eqb z.addr at other) (cases (is_top z) top)) behind

pub grown_has_top : (c : Chunk) (u : Tile) (nb : ℕ) (ts : List Tile) → IsBeforeTop c u ts → 0 < nb → HasTop (Some (c.at + nb)) (grown_tiles c u nb ts)
grown_has_top c u nb ts b some =
    let f : IsTopOf u ts = top_found u ts b.row b.top in
    let rest : Tile → Tile = λ v. record v { addr = c.at + nb; size = c.size + u.size - nb } in
    record {
      at = c.at + nb;
      size = c.size + u.size - nb;
      known = refl;
      stands = came_second 0 c.at ts (tile_of Used c.at c.size) (tile_of Used c.at nb) (rest u) (record u { addr = c.at; size = c.size + u.size }) (spread ts b.row) b.found refl refl (omega (arith, some))
          ∙ ap (λ v. Some (rest v)) f.is;
    }

pub grown_is : (a : Plain) (c : Chunk) (u : Tile) (nb : ℕ) → IsBeforeTop c u a.tiles → record a { tiles = grown_tiles c u nb a.tiles } ≡ grown_into_top a c nb
grown_is a c u nb b =
    let f : IsTopOf u a.tiles = top_found u a.tiles b.row b.top in
    let whole : ℕ → Plain = λ n. record a { tiles = fused c.at (tile_of Top c.at (c.size + n)) a.tiles } in
    let cut : ℕ → Option Tile → Plain = λ n o. elim o [
      | None ↦ whole n
      | Some t ↦ with_tiles (whole n) t.addr (tile_of Used t.addr nb ∷ tile_of Top (t.addr + nb) (t.size - nb) ∷ [])
    ] in
    ap (λ (v : Tile). record a { tiles = grown_tiles c v nb a.tiles }) f.is
    ∙ (sym (ap (cut u.size) (top_here 0 c.at (c.size + u.size) a.tiles u (spread a.tiles b.row) b.behind b.top))
    ∙ ap (λ n. cut n (top_of (whole n).tiles)) (sym (top_size_is a u b.top)))
