-- Laws of the bytes that tiles have, for this crate and those above it: each at most one tile, and a range of which no
-- tile has a byte lies apart from all.
use Rattle.std.proofs.Common.{◌≡◌, ℕ, ◌+◌, ◌<◌, ◌≤◌, Bool, true, false, cond, List, [], ◌∷◌, Some, refl, ap, inl, inr, arith}
use Rattle.std.specs.Prelude.{nat_eq, sum_by, max, ◌⊎◌}
use Rattle.std.proofs.lemmas.Bool.{cases_lt}
use Rattle.std.proofs.lemmas.Bool.Decides.{nat_tests}
use Rattle.std.proofs.lemmas.List.Sums.{sum_by-cons}
use Rattle.chunk_tags.specs.Tiles.{end_of, IsTile, Row, tile_at}
use Rattle.chunk_tags.specs.declared.tiles.Tile.{Tile}
use Rattle.arena_rules.specs.MainPlaces.{covers}
use Rattle.arena_rules.proofs.Rows.{Begins, begins_above, behind_begins}
use Rattle.arena_rules.proofs.Entries.{Apart}
use Rattle.arena_rules.proofs.Moved.{Adds}

pub covers_one : (n at size : ℕ) → at ≤ n → n < at + size → covers n at size ≡ 1
covers_one n at size ge lt = grind (arith, nat_tests)

pub covers_none : (n at size : ℕ) → (n < at) ⊎ (at + size ≤ n) → covers n at size ≡ 0
covers_none n at size out = grind (arith, nat_tests)

pub covers_le : (n at size : ℕ) → covers n at size ≤ 1
covers_le n at size = grind (arith, nat_tests)

pub covers_adds : (n : ℕ) → Adds (covers n)
covers_adds n = record { adds = λ at m k. grind (arith, nat_tests) }

abbrev pub weight_byte : ℕ → Tile → ℕ
weight_byte n t = covers n t.addr t.size

pub none_from : (n : ℕ) (us : List Tile) → Begins (n + 1) us → sum_by (weight_byte n) us ≡ 0
none_from n [] b = refl
none_from n (u ∷ us) b = omega (arith, sum_by-cons (weight_byte n) u us, covers_none n u.addr u.size (inl (omega (arith, b.0))), none_from n us b.1)

pub covered_once : (n : ℕ) (ts : List Tile) → Row ts → sum_by (weight_byte n) ts ≤ 1
covered_once n [] row = omega arith
covered_once n (t ∷ ts) row =
    let one = sum_by-cons (weight_byte n) t ts in
    elim (cases_lt n (end_of t)) [
      | inl lt ↦ omega (arith, one, covers_le n t.addr t.size, none_from n ts (begins_above (end_of t) (n + 1) ts (omega (arith, lt)) (behind_begins t ts row)))
      | inr ge ↦ omega (arith, one, covers_none n t.addr t.size (inr ge), covered_once n ts row.2)
    ]

tile_apart : (at end : ℕ) (t : Tile) → IsTile t → at < end → ((n : ℕ) → at ≤ n → n < end → weight_byte n t ≡ 0) → (end_of t ≤ at) ⊎ (end ≤ t.addr)
tile_apart at end t tile lt out =
    elim (cases_lt at (end_of t)) [
      | inr before ↦ inl before
      | inl over ↦ elim (cases_lt t.addr end) [
        | inr after ↦ inr after
        | inl under ↦
            let n : ℕ = max at t.addr in
            let no : weight_byte n t ≡ 0 = out n (omega arith) (omega (arith, lt, under)) in
            let one : weight_byte n t ≡ 1 = covers_one n t.addr t.size (omega arith) (omega (arith, over, tile.size.0)) in
            absurd (omega (arith, no, one))
      ]
    ]

pub apart_uncovered : (at end : ℕ) (ts : List Tile) → Row ts → at < end → ((n : ℕ) → at ≤ n → n < end → sum_by (weight_byte n) ts ≡ 0) → Apart at end ts
apart_uncovered at end [] row lt out = tt
apart_uncovered at end (t ∷ ts) row lt out = (
  tile_apart at end t row.0 lt (λ n ge under. omega (arith, out n ge under, sum_by-cons (weight_byte n) t ts)),
  apart_uncovered at end ts row.2 lt (λ n ge under. omega (arith, out n ge under, sum_by-cons (weight_byte n) t ts)),
)

-- a tile that a look-up gives has its bytes
pub covered_by : (n at : ℕ) (t : Tile) (ts : List Tile) → tile_at at ts ≡ Some t → weight_byte n t ≤ sum_by (weight_byte n) ts
covered_by n at t [] e = absurd cc
covered_by n at t (u ∷ us) e =
    let one = sum_by-cons (weight_byte n) u us in
    let cases : (b : Bool) → cond b (Some u) (tile_at at us) ≡ Some t → weight_byte n t ≤ sum_by (weight_byte n) (u ∷ us) = elim [
      | true ↦ λ h. let same : u ≡ t = cc in omega (arith, one, ap (weight_byte n) same)
      | false ↦ λ h. omega (arith, one, covered_by n at t us h)
    ] in
    cases (nat_eq u.addr at) e
