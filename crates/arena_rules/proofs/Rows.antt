-- Laws of a row of tiles, for this crate and those above it: a tile's place in the row, that addresses rise, and that a
-- row stays one where some of its tiles become others.
use Rattle.std.proofs.Common.{◌≡◌, ℕ, ◌+◌, ◌<◌, ◌≤◌, Bool, true, false, ◌&&◌, ◌||◌, cond, List, [], ◌∷◌, ◌++◌, Option, Some, None, IfSome, refl, sym, ap, ◌∙◌, subst, arith}
use Rattle.std.specs.Prelude.{nat_eq, drop, sum_by, slice_get}
use Rattle.std.specs.List.{AllByRecursion}
use Rattle.std.proofs.lemmas.Bool.{eqb-true, ne_eqb, eq-eqb, cond-true, cond-false, and_left, and_right, or_parts}
use Rattle.std.proofs.lemmas.List.Sums.{sum_by-cons}
use Rattle.chunk_tags.specs.Tiles.{is_free, is_top, is_edge, end_of, Leads, Row, swapped, fused, tile_at, tile_before, tile_behind}
use Rattle.chunk_tags.specs.declared.tiles.Tile.{Tile}

-- the tiles of a row from a place on, with those before it, the nearest first
abbrev pub onto : List Tile → List Tile → List Tile
onto [] ts = ts
onto (l ∷ ls) ts = onto ls (l ∷ ts)

-- where a tile stands in a row
pub record Stands (t : Tile) (ts : List Tile) : Type 0 where
  pub front : List Tile
  pub behind : List Tile
  pub is : ts ≡ onto front (t ∷ behind)

-- ---- a tile that a look-up gives stands there

pub record Found (at : ℕ) (t : Tile) (ls ts : List Tile) : Type 0 where
  pub front : List Tile
  pub behind : List Tile
  pub is : onto ls ts ≡ onto front (t ∷ behind)
  pub here : t.addr ≡ at

found : (at : ℕ) (t : Tile) (ls ts : List Tile) → tile_at at ts ≡ Some t → Found at t ls ts
found at t ls [] e = absurd cc
found at t ls (u ∷ us) e =
    let cases : (b : Bool) → nat_eq u.addr at ≡ b → cond b (Some u) (tile_at at us) ≡ Some t → Found at t ls (u ∷ us) = elim [
      | true ↦ λ is h. let same : u ≡ t = cc in record { front = ls; behind = us; is = ap (λ (x : Tile). onto ls (x ∷ us)) same; here = ap (λ (x : Tile). x.addr) (sym same) ∙ eqb-true u.addr at is }
      | false ↦ λ is h. let f = found at t (u ∷ ls) us h in record { front = f.front; behind = f.behind; is = f.is; here = f.here }
    ] in
    cases (nat_eq u.addr at) refl e

pub stands : (at : ℕ) (t : Tile) (ts : List Tile) → tile_at at ts ≡ Some t → Stands t ts
stands at t ts e = let f = found at t [] ts e in record { front = f.front; behind = f.behind; is = f.is }

-- what holds wherever a tile stands holds where a look-up gives it
pub at_place : (P : List Tile → Type 0) (t : Tile) (ts : List Tile) → tile_at t.addr ts ≡ Some t → ((ls us : List Tile) → P (onto ls (t ∷ us))) → P ts
at_place P t ts e all = let s = stands t.addr t ts e in subst P (sym s.is) (all s.front s.behind)

-- what holds of lists that begin with a tile holds of one that is seen to
pub first_is : (P : List Tile → Type 0) (u : Tile) (us : List Tile) → slice_get us 0 ≡ Some u → ((rest : List Tile) → P (u ∷ rest)) → P us
first_is P u [] e all = absurd cc
first_is P u (v ∷ rest) e all = let same : u ≡ v = cc in subst (λ x. P (x ∷ rest)) same (all rest)

pub addr_at : (at : ℕ) (t : Tile) (ts : List Tile) → tile_at at ts ≡ Some t → t.addr ≡ at
addr_at at t ts e = (found at t [] ts e).here

-- ---- addresses rise

pub row_behind : (ls ts : List Tile) → Row (onto ls ts) → Row ts
row_behind [] ts row = row
row_behind (l ∷ ls) ts row = (row_behind ls (l ∷ ts) row).2

abbrev pub Ends : ℕ → List Tile → Type 0
Ends at ls = AllByRecursion (λ l. l.addr < at) ls

pub ends_below : (n m : ℕ) (ls : List Tile) → n ≤ m → Ends n ls → Ends m ls
ends_below n m [] le all = tt
ends_below n m (l ∷ ls) le all = (omega (arith, all.0), ends_below n m ls le all.1)

pub front_ends : (ls : List Tile) (t : Tile) (us : List Tile) → Row (onto ls (t ∷ us)) → Ends t.addr ls
front_ends [] t us row = tt
front_ends (l ∷ ls) t us row =
    let here : Row (l ∷ t ∷ us) = row_behind ls (l ∷ t ∷ us) row in
    let lt : l.addr < t.addr = omega (arith, here.0.size.0, here.1.order) in
    (lt, ends_below l.addr t.addr ls (omega arith) (front_ends ls l (t ∷ us) row))

-- from an address on
abbrev pub Begins : ℕ → List Tile → Type 0
Begins at us = AllByRecursion (λ u. at ≤ u.addr) us

pub begins_above : (n m : ℕ) (us : List Tile) → m ≤ n → Begins n us → Begins m us
begins_above n m [] le all = tt
begins_above n m (u ∷ us) le all = (omega (arith, all.0), begins_above n m us le all.1)

pub behind_begins : (t : Tile) (us : List Tile) → Row (t ∷ us) → Begins (end_of t) us
behind_begins t [] row = tt
behind_begins t (u ∷ us) row =
    (row.1.order, begins_above (end_of u) (end_of t) us (omega (arith, row.1.order)) (behind_begins u us row.2))

-- ---- what a row gives at the address of one of its tiles

misses : (n m : ℕ) → n < m → nat_eq n m ≡ false
misses n m lt = ne_eqb n m (λ e. omega arith)

at_onto : (at : ℕ) (ls ts : List Tile) → Ends at ls → tile_at at (onto ls ts) ≡ tile_at at ts
at_onto at [] ts e = refl
at_onto at (l ∷ ls) ts e = at_onto at ls (l ∷ ts) e.1 ∙ cond-false (nat_eq l.addr at) (Some l) (tile_at at ts) (misses l.addr at e.0)

swapped_onto : (at : ℕ) (news ls ts : List Tile) → Ends at ls → swapped at news (onto ls ts) ≡ onto ls (swapped at news ts)
swapped_onto at news [] ts e = refl
swapped_onto at news (l ∷ ls) ts e =
    swapped_onto at news ls (l ∷ ts) e.1 ∙ ap (onto ls) (cond-false (nat_eq l.addr at) (news ++ ts) (l ∷ swapped at news ts) (misses l.addr at e.0))

fused_onto : (at : ℕ) (x : Tile) (ls ts : List Tile) → Ends at ls → fused at x (onto ls ts) ≡ onto ls (fused at x ts)
fused_onto at x [] ts e = refl
fused_onto at x (l ∷ ls) ts e =
    fused_onto at x ls (l ∷ ts) e.1 ∙ ap (onto ls) (cond-false (nat_eq l.addr at) (x ∷ drop 1 ts) (l ∷ fused at x ts) (misses l.addr at e.0))

behind_step : (at : ℕ) (l : Tile) (ts : List Tile) → l.addr < at → tile_behind at (l ∷ ts) ≡ tile_behind at ts
behind_step at l [] lt = refl
behind_step at l (t ∷ ts) lt = cond-false (nat_eq l.addr at) (Some t) (tile_behind at (t ∷ ts)) (misses l.addr at lt)

behind_onto : (at : ℕ) (ls ts : List Tile) → Ends at ls → tile_behind at (onto ls ts) ≡ tile_behind at ts
behind_onto at [] ts e = refl
behind_onto at (l ∷ ls) ts e = behind_onto at ls (l ∷ ts) e.1 ∙ behind_step at l ts e.0

before_onto : (at : ℕ) (ls : List Tile) (l : Tile) (ts : List Tile) → Ends at (l ∷ ls) → tile_before at (onto ls (l ∷ ts)) ≡ tile_before at (l ∷ ts)
before_onto at [] l ts e = refl
before_onto at (m ∷ ls) l ts e =
    before_onto at ls m (l ∷ ts) e.1 ∙ cond-false (nat_eq l.addr at) (Some m) (tile_before at (l ∷ ts)) (misses l.addr at e.0)

none_before : (at : ℕ) (t : Tile) (us : List Tile) → Begins (at + 1) us → tile_before at (t ∷ us) ≡ None
none_before at t [] b = refl
none_before at t (u ∷ us) b =
    cond-false (nat_eq u.addr at) (Some t) (tile_before at (u ∷ us)) (ne_eqb u.addr at (λ e. omega (arith, b.0))) ∙ none_before at u us b.1

same_eqb : (n : ℕ) → nat_eq n n ≡ true
same_eqb n = eq-eqb n n refl

-- a swap at a tile, all before which begin below it
pub swapped_here : (ls : List Tile) (t : Tile) (us news : List Tile) → Ends t.addr ls → swapped t.addr news (onto ls (t ∷ us)) ≡ onto ls (news ++ us)
swapped_here ls t us news e =
    swapped_onto t.addr news ls (t ∷ us) e ∙ ap (onto ls) (cond-true (nat_eq t.addr t.addr) (news ++ us) (t ∷ swapped t.addr news us) (same_eqb t.addr))

pub record IsRead (ls : List Tile) (t : Tile) (us : List Tile) : Type 0 where
  pub at : tile_at t.addr (onto ls (t ∷ us)) ≡ Some t
  pub before : tile_before t.addr (onto ls (t ∷ us)) ≡ slice_get ls 0
  pub behind : tile_behind t.addr (onto ls (t ∷ us)) ≡ slice_get us 0
  pub swap : (news : List Tile) → swapped t.addr news (onto ls (t ∷ us)) ≡ onto ls (news ++ us)
  pub fuse : (x : Tile) → fused t.addr x (onto ls (t ∷ us)) ≡ onto ls (x ∷ drop 1 us)

read_behind : (t : Tile) (us : List Tile) → tile_behind t.addr (t ∷ us) ≡ slice_get us 0
read_behind t [] = refl
read_behind t (u ∷ us) = cond-true (nat_eq t.addr t.addr) (Some u) (tile_behind t.addr (u ∷ us)) (same_eqb t.addr)

read_before : (ls : List Tile) (t : Tile) (us : List Tile) → Ends t.addr ls → Begins (t.addr + 1) us → tile_before t.addr (onto ls (t ∷ us)) ≡ slice_get ls 0
read_before [] t us e b = none_before t.addr t us b
read_before (l ∷ ls) t us e b = before_onto t.addr ls l (t ∷ us) e ∙ cond-true (nat_eq t.addr t.addr) (Some l) (tile_before t.addr (t ∷ us)) (same_eqb t.addr)

pub read : (ls : List Tile) (t : Tile) (us : List Tile) → Row (onto ls (t ∷ us)) → IsRead ls t us
read ls t us row =
    let e = front_ends ls t us row in
    let here : Row (t ∷ us) = row_behind ls (t ∷ us) row in
    record {
      at = at_onto t.addr ls (t ∷ us) e ∙ cond-true (nat_eq t.addr t.addr) (Some t) (tile_at t.addr us) (same_eqb t.addr);
      before = read_before ls t us e (begins_above (end_of t) (t.addr + 1) us (omega (arith, here.0.size.0)) (behind_begins t us here));
      behind = behind_onto t.addr ls (t ∷ us) e ∙ read_behind t us;
      swap = λ news. swapped_here ls t us news e;
      fuse = λ x. fused_onto t.addr x ls (t ∷ us) e ∙ ap (onto ls) (cond-true (nat_eq t.addr t.addr) (x ∷ drop 1 us) (t ∷ fused t.addr x us) (same_eqb t.addr));
    }

-- ---- what is said of a tile that a look-up may give

abbrev pub NotFree : Option Tile → Type 0
NotFree o = IfSome o (λ t. is_free t ≡ false)

-- neither free nor top
abbrev pub Neither : Option Tile → Type 0
Neither o = IfSome o (λ t. (is_free t || is_top t) ≡ false)

-- such a tile may stand before another
abbrev pub MayLead : Tile → Option Tile → Type 0
MayLead x o = IfSome o (λ l. is_free l && (is_free x || is_top x) ≡ false)

-- or behind it
abbrev pub MayFollow : Tile → Option Tile → Type 0
MayFollow x o = IfSome o (λ u. is_free x && (is_free u || is_top u) ≡ false)

-- what is said of any tile
pub any_found : (P : Tile → Type 0) (o : Option Tile) → ((t : Tile) → P t) → IfSome o P
any_found P None all = tt
any_found P (Some t) all = all t

-- what follows for each tile
pub found_also : (P Q : Tile → Type 0) (o : Option Tile) → ((t : Tile) → P t → Q t) → IfSome o P → IfSome o Q
found_also P Q None all h = tt
found_also P Q (Some t) all h = all t h

-- what is shown for the tile that it gives
pub if_found : (P : Tile → Type 0) (o : Option Tile) → ((t : Tile) → o ≡ Some t → P t) → IfSome o P
if_found P None h = tt
if_found P (Some t) h = h t refl

pub may_lead : (x : Tile) (o : Option Tile) → (is_free x || is_top x) ≡ false → MayLead x o
may_lead x o e = any_found (λ l. is_free l && (is_free x || is_top x) ≡ false) o (λ l. and_right (is_free l) (is_free x || is_top x) e)

pub may_lead_behind : (x : Tile) (o : Option Tile) → NotFree o → MayLead x o
may_lead_behind x o h = found_also (λ l. is_free l ≡ false) (λ l. is_free l && (is_free x || is_top x) ≡ false) o (λ l e. and_left (is_free l) (is_free x || is_top x) e) h

pub may_follow : (x : Tile) (o : Option Tile) → is_free x ≡ false → MayFollow x o
may_follow x o e = any_found (λ u. is_free x && (is_free u || is_top u) ≡ false) o (λ u. and_left (is_free x) (is_free u || is_top u) e)

pub neither_not_free : (o : Option Tile) → Neither o → NotFree o
neither_not_free o h = found_also (λ u. (is_free u || is_top u) ≡ false) (λ u. is_free u ≡ false) o (λ u e. (or_parts (is_free u) (is_top u) e).0) h

-- ---- a row stays one

-- the nearest tile before, where there is one, leads these
abbrev pub Led : List Tile → List Tile → Type 0
Led ls ts = IfSome (slice_get ls 0) (λ l. Leads l ts)

pub led : (ls ts : List Tile) → Row (onto ls ts) → Led ls ts
led [] ts row = tt
led (l ∷ ls) ts row = (row_behind ls (l ∷ ts) row).1

led_still : (ls : List Tile) (l : Tile) (ts news : List Tile) → Led ls (l ∷ ts) → Led ls (l ∷ news)
led_still [] l ts news h = tt
led_still (m ∷ ls) l ts news h = h

pub row_with : (ls ts news : List Tile) → Row (onto ls ts) → Row news → Led ls news → Row (onto ls news)
row_with [] ts news row new h = new
row_with (l ∷ ls) ts news row new h =
    row_with ls (l ∷ ts) (l ∷ news) row ((row_behind ls (l ∷ ts) row).0, h, new) (led_still ls l ts news (led ls (l ∷ ts) row))

-- another tile at the same place is led too, where it doesn't stand free or as top behind a free one
pub led_as : (ls : List Tile) (t x : Tile) (us vs : List Tile) → Led ls (t ∷ us) → x.addr ≡ t.addr → MayLead x (slice_get ls 0) → Led ls (x ∷ vs)
led_as [] t x us vs h e apart = tt
led_as (l ∷ ls) t x us vs h e apart = record { order = omega (arith, h.order, e); joins = λ no. h.joins no ∙ sym e; apart = apart }

-- another tile with the same end leads too
pub leads_as : (t x : Tile) (us : List Tile) → Leads t us → end_of x ≡ end_of t → is_edge x ≡ is_edge t → MayFollow x (slice_get us 0) → Leads x us
leads_as t x [] h e edge apart = edge ∙ h
leads_as t x (u ∷ us) h e edge apart = record { order = omega (arith, h.order, e); joins = λ no. e ∙ h.joins (sym edge ∙ no); apart = apart }

-- ---- sums over a row

pub sum_by_onto : (w : Tile → ℕ) (ls ts : List Tile) → sum_by w (onto ls ts) ≡ sum_by w ls + sum_by w ts
sum_by_onto w [] ts = omega arith
sum_by_onto w (l ∷ ls) ts = omega (arith, sum_by_onto w ls (l ∷ ts), sum_by-cons w l ts, sum_by-cons w l ls)
