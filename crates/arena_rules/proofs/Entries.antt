-- Laws of a tile of a new range, which enters a row in its place by address, for this crate and those above it.
use Rattle.std.proofs.Common.{◌≡◌, ℕ, ◌+◌, ◌<◌, ◌≤◌, Bool, true, false, ◌||◌, cond, List, [], ◌∷◌, refl, inl, inr, arith}
use Rattle.std.specs.Prelude.{nat_lt, sum_by, ◌⊎◌}
use Rattle.std.specs.List.{AllByRecursion}
use Rattle.std.proofs.lemmas.Bool.{and_left, ltb-true, ltb-false, cases_Bool}
use Rattle.std.proofs.lemmas.List.Sums.{sum_by-cons}
use Rattle.chunk_tags.specs.Tiles.{is_free, is_top, is_edge, end_of, IsTile, Meets, Leads, Row, entered}
use Rattle.chunk_tags.specs.declared.tiles.Tile.{Tile}
use Rattle.arena_rules.proofs.Changes.{IsChanged, edge_not_free}

-- a range lies apart from all tiles of a row
abbrev pub Apart : ℕ → ℕ → List Tile → Type 0
Apart at end ts = AllByRecursion (λ t. (end_of t ≤ at) ⊎ (end ≤ t.addr)) ts

pub record IsEntry (x : Tile) (ts : List Tile) : Type 0 where
  pub tile : IsTile x
  pub edge : is_edge x ≡ true
  pub apart : Apart x.addr (end_of x) ts

-- a tile before an edge that isn't next to it is an edge
pub gap_is_edge : (t : Tile) (next : ℕ) → (is_edge t ≡ false → end_of t ≡ next) → end_of t < next → is_edge t ≡ true
gap_is_edge t next joins lt =
    elim (cases_Bool (is_edge t)) [
      | inl edge ↦ edge
      | inr none ↦ let e = joins none in absurd (omega arith)
    ]

meets_edge : (t x : Tile) → end_of t ≤ x.addr → is_edge t ≡ true → Meets t x
meets_edge t x le edge = record { order = le; joins = λ no. absurd cc; apart = and_left (is_free t) (is_free x || is_top x) (edge_not_free t.kind edge) }

leads_entered : (t x : Tile) (ts : List Tile) → Leads t ts → 0 < x.size → end_of t ≤ x.addr → Leads t (entered x ts)
leads_entered t x [] h some le = meets_edge t x le h
leads_entered t x (u ∷ us) h some le =
    let cases : (b : Bool) → nat_lt x.addr u.addr ≡ b → Leads t (cond b (x ∷ u ∷ us) (u ∷ entered x us)) = elim [
      | true ↦ λ lt. meets_edge t x le (gap_is_edge t u.addr h.joins (omega (arith, ltb-true x.addr u.addr lt)))
      | false ↦ λ ge. h
    ] in
    cases (nat_lt x.addr u.addr) refl

entered_row : (x : Tile) (ts : List Tile) → Row ts → IsEntry x ts → Row (entered x ts)
entered_row x [] row e = (e.tile, e.edge, tt)
entered_row x (t ∷ ts) row e =
    let cases : (b : Bool) → nat_lt x.addr t.addr ≡ b → Row (cond b (x ∷ t ∷ ts) (t ∷ entered x ts)) = elim [
      | true ↦ λ is.
          let lt : x.addr < t.addr = ltb-true x.addr t.addr is in
          let le : end_of x ≤ t.addr = elim e.apart.0 [ inl before ↦ absurd (omega (arith, before)) | inr after ↦ after ] in
          (e.tile, meets_edge x t le e.edge, row)
      | false ↦ λ is.
          let ge : t.addr ≤ x.addr = ltb-false x.addr t.addr is in
          let le : end_of t ≤ x.addr = elim e.apart.0 [ inl before ↦ before | inr after ↦ absurd (omega (arith, after, e.tile.size.0)) ] in
          (row.0, leads_entered t x ts row.1 (omega (arith, e.tile.size.0)) le, entered_row x ts row.2 (record { tile = e.tile; edge = e.edge; apart = e.apart.1 }))
    ] in
    cases (nat_lt x.addr t.addr) refl

entered_sum : (w : Tile → ℕ) (x : Tile) (ts : List Tile) → sum_by w (entered x ts) ≡ sum_by w ts + w x
entered_sum w x [] = omega (arith, sum_by-cons w x [])
entered_sum w x (t ∷ ts) =
    let one = sum_by-cons w t ts in
    let cases : (b : Bool) → sum_by w (cond b (x ∷ t ∷ ts) (t ∷ entered x ts)) ≡ sum_by w (t ∷ ts) + w x = elim [
      | true ↦ omega (arith, one, sum_by-cons w x (t ∷ ts))
      | false ↦ omega (arith, one, sum_by-cons w t (entered x ts), entered_sum w x ts)
    ] in
    cases (nat_lt x.addr t.addr)

pub entered_changed : (x : Tile) (ts : List Tile) → Row ts → IsEntry x ts → IsChanged ts (entered x ts) [] (x ∷ [])
entered_changed x ts row e = record { row = entered_row x ts row e; sums = λ w. omega (arith, entered_sum w x ts, sum_by-cons w x []) }

-- behind all tiles is apart from them
pub apart_behind : (at end : ℕ) (ts : List Tile) → AllByRecursion (λ t. end_of t ≤ at) ts → Apart at end ts
apart_behind at end [] all = tt
apart_behind at end (t ∷ ts) all = (inl all.0, apart_behind at end ts all.1)
