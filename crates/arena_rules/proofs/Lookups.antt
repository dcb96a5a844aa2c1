-- Laws of look-ups, for this crate and those above it: what a change of a row leaves at other addresses, and in which
-- list a free tile stands.
use Rattle.std.proofs.Common.{◌≡◌, ℕ, ◌<◌, Bool, true, false, cond, List, [], ◌∷◌, ◌++◌, length, get_or, Option, Some, None, refl, sym, ap, ◌∙◌, subst, arith, zero, suc}
use Rattle.std.specs.Prelude.{nat_eq, nat_lt, drop, sum_by}
use Rattle.std.specs.List.{AllByRecursion}
use Rattle.std.proofs.lemmas.Bool.{eqb-true, ne_eqb, eq-eqb, cond-true, cond-false}
use Rattle.std.proofs.lemmas.List.Sums.{sum_by-cons}
use Rattle.chunk_tags.specs.declared.tiles.Chunk.{Chunk}
use Rattle.chunk_tags.specs.BinOrder.{same_chunk, times_in, once}
use Rattle.chunk_tags.specs.Tiles.{swapped, fused, entered, tile_at, tile_behind}
use Rattle.chunk_tags.specs.declared.tiles.Tile.{Tile}
use Rattle.chunk_tags.specs.declared.tiles.TileKind.TheVariants.{Free}
use Rattle.arena_rules.specs.Moves.{tile_of}
use Rattle.arena_rules.specs.PlainArena.{Plain, bin_at, times_listed, BelongsIn, IsSound}
use Rattle.arena_rules.proofs.Bins.{same_chunk_is, times_in_bin}
use Rattle.arena_rules.proofs.ChunkMoves.{listed_tile, listed_once}

-- ---- other addresses

pub some_is : (t u : Tile) → let o : Option Tile = Some t in o ≡ Some u → t ≡ u
some_is t u e = cc

behind_rest : (at : ℕ) (t u : Tile) (ts : List Tile) → nat_eq t.addr at ≡ false → tile_behind at (t ∷ ts) ≡ Some u → tile_behind at ts ≡ Some u
behind_rest at t u [] is e = absurd cc
behind_rest at t u (v ∷ ts) is e = sym (cond-false (nat_eq t.addr at) (Some v) (tile_behind at (v ∷ ts)) is) ∙ e

at_append : (at : ℕ) (ts us : List Tile) → tile_at at ts ≡ None → tile_at at (ts ++ us) ≡ tile_at at us
at_append at [] us e = refl
at_append at (t ∷ ts) us e =
    let cases : (b : Bool) → cond b (Some t) (tile_at at ts) ≡ None → cond b (Some t) (tile_at at (ts ++ us)) ≡ tile_at at us = elim [
      | true ↦ λ h. absurd cc
      | false ↦ λ h. at_append at ts us h
    ] in
    cases (nat_eq t.addr at) e

other : (at n : ℕ) (t : Tile) (o : Option Tile) → (n ≡ at → ⊥) → t.addr ≡ at → cond (nat_eq t.addr n) (Some t) o ≡ o
other at n t o ne here = cond-false (nat_eq t.addr n) (Some t) o (ne_eqb t.addr n (λ e. ne (sym e ∙ here)))

-- a look-up at another address than those of the tiles that came
pub swapped_other : (at n : ℕ) (news ts : List Tile) → (n ≡ at → ⊥) → tile_at n news ≡ None → tile_at n (swapped at news ts) ≡ tile_at n ts
swapped_other at n news [] ne none = refl
swapped_other at n news (t ∷ ts) ne none =
    let cases : (b : Bool) → nat_eq t.addr at ≡ b → tile_at n (cond b (news ++ ts) (t ∷ swapped at news ts)) ≡ tile_at n (t ∷ ts) = elim [
      | true ↦ λ is. at_append n news ts none ∙ sym (other at n t (tile_at n ts) ne (eqb-true t.addr at is))
      | false ↦ λ is. ap (λ o. cond (nat_eq t.addr n) (Some t) o) (swapped_other at n news ts ne none)
    ] in
    cases (nat_eq t.addr at) refl

fused_head : (at n : ℕ) (t u x : Tile) (ts : List Tile) → (n ≡ at → ⊥) → (n ≡ u.addr → ⊥) → t.addr ≡ at → x.addr ≡ at → tile_behind at (t ∷ ts) ≡ Some u → tile_at n (x ∷ drop 1 ts) ≡ tile_at n (t ∷ ts)
fused_head at n t u x [] ne ne' here there e = absurd cc
fused_head at n t u x (v ∷ ts) ne ne' here there e =
    let yes : nat_eq t.addr at ≡ true = eq-eqb t.addr at here in
    let same : v ≡ u = some_is v u (sym (cond-true (nat_eq t.addr at) (Some v) (tile_behind at (v ∷ ts)) yes) ∙ e) in
    other at n x (tile_at n ts) ne there ∙ sym (other at n t (tile_at n (v ∷ ts)) ne here ∙ other u.addr n v (tile_at n ts) ne' (ap (λ (w : Tile). w.addr) same))

pub fused_other : (at n : ℕ) (u x : Tile) (ts : List Tile) → (n ≡ at → ⊥) → (n ≡ u.addr → ⊥) → x.addr ≡ at → tile_behind at ts ≡ Some u → tile_at n (fused at x ts) ≡ tile_at n ts
fused_other at n u x [] ne ne' there e = refl
fused_other at n u x (t ∷ ts) ne ne' there e =
    let cases : (b : Bool) → nat_eq t.addr at ≡ b → tile_at n (cond b (x ∷ drop 1 ts) (t ∷ fused at x ts)) ≡ tile_at n (t ∷ ts) = elim [
      | true ↦ λ is. fused_head at n t u x ts ne ne' (eqb-true t.addr at is) there e
      | false ↦ λ is. ap (λ o. cond (nat_eq t.addr n) (Some t) o) (fused_other at n u x ts ne ne' there (behind_rest at t u ts is e))
    ] in
    cases (nat_eq t.addr at) refl

pub entered_other : (n : ℕ) (x : Tile) (ts : List Tile) → (n ≡ x.addr → ⊥) → tile_at n (entered x ts) ≡ tile_at n ts
entered_other n x [] ne = other x.addr n x None ne refl
entered_other n x (t ∷ ts) ne =
    let cases : (b : Bool) → tile_at n (cond b (x ∷ t ∷ ts) (t ∷ entered x ts)) ≡ tile_at n (t ∷ ts) = elim [
      | true ↦ other x.addr n x (tile_at n (t ∷ ts)) ne refl
      | false ↦ ap (λ o. cond (nat_eq t.addr n) (Some t) o) (entered_other n x ts ne)
    ] in
    cases (nat_lt x.addr t.addr)

-- ---- the list of a free tile

-- a sum that isn't 0 has a part that isn't
pub record IsPartOf (f : List Chunk → ℕ) (bins : List (List Chunk)) : Type 0 where
  pub index : ℕ
  pub below : index < length bins
  pub some : 0 < f (get_or bins index [])

part_of : (f : List Chunk → ℕ) (bins : List (List Chunk)) → 0 < sum_by f bins → IsPartOf f bins
part_of f [] some = absurd (omega arith)
part_of f (cs ∷ bins) some =
    let cases : (n : ℕ) → f cs ≡ n → IsPartOf f (cs ∷ bins) = elim [
      | zero ↦ λ e. let p = part_of f bins (omega (arith, some, sum_by-cons f cs bins, e)) in record { index = suc p.index; below = omega (arith, p.below); some = p.some }
      | (suc n) ↦ λ e. record { index = 0; below = omega arith; some = omega (arith, e) }
    ] in
    cases (f cs) refl

-- the bin in which a chunk is listed: the unsorted one, or that of its size
pub record IsListedIn (c : Chunk) (a : Plain) : Type 0 where
  pub bin : ℕ
  pub below : bin < 127
  pub times : times_in c (bin_at a bin) ≡ 1
  pub belongs : BelongsIn bin c

pub belongs_of : (i : ℕ) (c : Chunk) (cs : List Chunk) → AllByRecursion (BelongsIn i) cs → 0 < times_in c cs → BelongsIn i c
belongs_of i c [] all some = absurd (omega arith)
belongs_of i c (d ∷ ds) all some =
    let cases : (b : Bool) → same_chunk c d ≡ b → BelongsIn i c = elim [
      | true ↦ λ is. subst (BelongsIn i) (sym (same_chunk_is c d is)) all.0
      | false ↦ λ is. belongs_of i c ds all.1 (omega (arith, some, sum_by-cons (once c) d ds, ap {B = ℕ} (λ (b : Bool). cond b 1 0) is))
    ] in
    cases (same_chunk c d) refl

pub listed_in : (c : Chunk) (a : Plain) → IsSound a → 0 < times_listed c a → IsListedIn c a
listed_in c a s some =
    let p : IsPartOf (times_in c) a.bins = part_of (times_in c) a.bins some in
    record {
      bin = p.index;
      below = omega (arith, p.below, s.listed.width);
      times = omega (arith, p.some, times_in_bin c a p.index, listed_once a c s some);
      belongs = belongs_of p.index c (bin_at a p.index) (s.listed.bins p.index).belong p.some;
    }

-- at one address at most one chunk is listed
pub listed_same : (c d : Chunk) (a : Plain) → IsSound a → 0 < times_listed c a → 0 < times_listed d a → c.at ≡ d.at → c ≡ d
listed_same c d a s one two e =
    let here : Some (tile_of Free c.at c.size) ≡ Some (tile_of Free d.at d.size) = sym (listed_tile a c s one) ∙ (ap (λ n. tile_at n a.tiles) e ∙ listed_tile a d s two) in
    let size : c.size ≡ d.size = ap (λ (t : Tile). t.size) (some_is (tile_of Free c.at c.size) (tile_of Free d.at d.size) here) in
    λ i. record { at = e i; size = size i }
