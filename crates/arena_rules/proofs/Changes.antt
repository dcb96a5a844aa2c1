-- Laws of what changes in a row, for this crate and those above it: it stays a row, and each sum over it changes by
-- what left and what came.
use Rattle.std.proofs.Common.{◌≡◌, ℕ, ◌+◌, ◌≤◌, true, false, ◌&&◌, ◌||◌, List, [], ◌∷◌, ◌++◌, Some, IfSome, refl, sym, ap, ◌∙◌, subst, inl, inr, arith}
use Rattle.std.specs.Prelude.{sum_by, slice_get}
use Rattle.std.proofs.lemmas.Bool.{and_left, or_parts, and_cases, true≢false}
use Rattle.std.proofs.lemmas.List.Sums.{sum_by-append}
use Rattle.chunk_tags.specs.Tiles.{is_free, is_top, is_edge, end_of, IsTile, Meets, Leads, Row, swapped, fused, tile_at, tile_before, tile_behind}
use Rattle.chunk_tags.specs.declared.tiles.Tile.{Tile}
use Rattle.chunk_tags.specs.declared.tiles.TileKind.{TileKind}
use Rattle.chunk_tags.specs.declared.tiles.TileKind.TheVariants.{Used, Free, Top, Fence}
use Rattle.arena_rules.specs.Moves.{tile_of}
use Rattle.arena_rules.proofs.Rows.{onto, at_place, first_is, stands, read, row_behind, Led, led, led_as, leads_as, row_with, sum_by_onto, if_found, NotFree, Neither, MayLead, MayFollow, may_lead, may_follow}

pub record IsChanged (old new gone came : List Tile) : Type 0 where
  pub row : Row new
  pub sums : (w : Tile → ℕ) → sum_by w new + sum_by w gone ≡ sum_by w old + sum_by w came

pub changed_at : (ls gone us came : List Tile) → Row (onto ls (gone ++ us)) → Row (came ++ us) → Led ls (came ++ us) → IsChanged (onto ls (gone ++ us)) (onto ls (came ++ us)) gone came
changed_at ls gone us came row new first = record {
  row = row_with ls (gone ++ us) (came ++ us) row new first;
  sums = λ w. omega (
    arith,
    sum_by_onto w ls (gone ++ us),
    sum_by_onto w ls (came ++ us),
    sum_by-append w gone us,
    sum_by-append w came us,
  );
}

-- ---- two neighbours in a row

pub record AreNeighbours (t u : Tile) (ts : List Tile) : Type 0 where
  pub first : tile_at t.addr ts ≡ Some t
  pub second : tile_at u.addr ts ≡ Some u
  pub before : tile_before u.addr ts ≡ Some t
  pub behind : tile_behind t.addr ts ≡ Some u
  pub meets : Meets t u
  pub tile : IsTile t
  pub tile_behind_it : IsTile u

neighbours_in : (t u : Tile) (ls us : List Tile) → Row (onto ls (t ∷ u ∷ us)) → AreNeighbours t u (onto ls (t ∷ u ∷ us))
neighbours_in t u ls us row =
    let r = read ls t (u ∷ us) row in
    let s = read (t ∷ ls) u us row in
    let here : Row (t ∷ u ∷ us) = row_behind ls (t ∷ u ∷ us) row in
    record { first = r.at; second = s.at; before = s.before; behind = r.behind; meets = here.1; tile = here.0; tile_behind_it = here.2.0 }

pub neighbours_behind : (t u : Tile) (ts : List Tile) → Row ts → tile_at t.addr ts ≡ Some t → tile_behind t.addr ts ≡ Some u → AreNeighbours t u ts
neighbours_behind t u ts row at e =
    at_place (λ xs. Row xs → tile_behind t.addr xs ≡ Some u → AreNeighbours t u xs) t ts at (λ ls us row e.
    first_is (λ vs. Row (onto ls (t ∷ vs)) → AreNeighbours t u (onto ls (t ∷ vs))) u us (sym (read ls t us row).behind ∙ e) (neighbours_in t u ls) row) row e

pub neighbours_before : (t u : Tile) (ts : List Tile) → Row ts → tile_at u.addr ts ≡ Some u → tile_before u.addr ts ≡ Some t → AreNeighbours t u ts
neighbours_before t u ts row at e =
    at_place (λ xs. Row xs → tile_before u.addr xs ≡ Some t → AreNeighbours t u xs) u ts at (λ ls us row e.
    first_is (λ vs. Row (onto vs (u ∷ us)) → AreNeighbours t u (onto vs (u ∷ us))) t ls (sym (read ls u us row).before ∙ e) (λ rest. neighbours_in t u rest us) row) row e

-- a tile of a row has a chunk's size and place
pub tile_is : (t : Tile) (ts : List Tile) → Row ts → tile_at t.addr ts ≡ Some t → IsTile t
tile_is t ts row at =
    let s = stands t.addr t ts at in
    (row_behind s.front (t ∷ s.behind) (subst Row s.is row)).0

-- no free tile stands next to a free one, nor top behind it
pub none_before_free : (t : Tile) (ts : List Tile) → Row ts → is_free t ≡ true → tile_at t.addr ts ≡ Some t → NotFree (tile_before t.addr ts)
none_before_free t ts row free at =
    if_found (λ l. is_free l ≡ false) (tile_before t.addr ts) (λ l e.
    let apart : is_free l && (is_free t || is_top t) ≡ false = (neighbours_before l t ts row at e).meets.apart in
    elim (and_cases (is_free l) (is_free t || is_top t) apart) [
      | inl other ↦ other
      | inr none ↦ absurd (true≢false (sym free ∙ (or_parts (is_free t) (is_top t) none).0))
    ])

pub none_behind_free : (t : Tile) (ts : List Tile) → Row ts → is_free t ≡ true → tile_at t.addr ts ≡ Some t → Neither (tile_behind t.addr ts)
none_behind_free t ts row free at =
    if_found (λ u. (is_free u || is_top u) ≡ false) (tile_behind t.addr ts) (λ u e.
    let apart : is_free t && (is_free u || is_top u) ≡ false = (neighbours_behind t u ts row at e).meets.apart in
    elim (and_cases (is_free t) (is_free u || is_top u) apart) [
      | inl none ↦ absurd (true≢false (sym free ∙ none))
      | inr neither ↦ neither
    ])

-- ---- a tile becomes another at the same place

pub record IsExchange (t x : Tile) (ts : List Tile) : Type 0 where
  pub found : tile_at t.addr ts ≡ Some t
  pub tile : IsTile x
  pub at : x.addr ≡ t.addr
  pub end : end_of x ≡ end_of t
  pub edge : is_edge x ≡ is_edge t
  pub before : MayLead x (tile_before t.addr ts)
  pub behind : MayFollow x (tile_behind t.addr ts)

pub record IsExchanged (t x : Tile) (ts : List Tile) : Type 0 where
  pub changed : IsChanged ts (swapped t.addr (x ∷ []) ts) (t ∷ []) (x ∷ [])
  pub before : tile_before t.addr (swapped t.addr (x ∷ []) ts) ≡ tile_before t.addr ts
  pub behind : tile_behind t.addr (swapped t.addr (x ∷ []) ts) ≡ tile_behind t.addr ts

-- the tile before a place, in a row that was changed there
before_now : (at : ℕ) (x : Tile) (ls us : List Tile) (new : List Tile) → x.addr ≡ at → new ≡ onto ls (x ∷ us) → Row (onto ls (x ∷ us)) → tile_before at new ≡ slice_get ls 0
before_now at x ls us new here is row =
    ap (tile_before at) is ∙ (ap (λ (n : ℕ). tile_before n (onto ls (x ∷ us))) (sym here) ∙ (read ls x us row).before)

behind_now : (at : ℕ) (x : Tile) (ls us : List Tile) (new : List Tile) → x.addr ≡ at → new ≡ onto ls (x ∷ us) → Row (onto ls (x ∷ us)) → tile_behind at new ≡ slice_get us 0
behind_now at x ls us new here is row =
    ap (tile_behind at) is ∙ (ap (λ (n : ℕ). tile_behind n (onto ls (x ∷ us))) (sym here) ∙ (read ls x us row).behind)

exchanged_in : (t x : Tile) (ls us : List Tile) → Row (onto ls (t ∷ us)) → IsExchange t x (onto ls (t ∷ us)) → IsExchanged t x (onto ls (t ∷ us))
exchanged_in t x ls us row e =
    let r = read ls t us row in
    let here : Row (t ∷ us) = row_behind ls (t ∷ us) row in
    let new : Row (x ∷ us) = (e.tile, leads_as t x us here.1 e.end e.edge (subst (MayFollow x) r.behind e.behind), here.2) in
    let first : Led ls (x ∷ us) = led_as ls t x us us (led ls (t ∷ us) row) e.at (subst (MayLead x) r.before e.before) in
    let c : IsChanged (onto ls (t ∷ us)) (onto ls (x ∷ us)) (t ∷ []) (x ∷ []) = changed_at ls (t ∷ []) us (x ∷ []) row new first in
    record {
      changed = subst (λ n. IsChanged (onto ls (t ∷ us)) n (t ∷ []) (x ∷ [])) (sym (r.swap (x ∷ []))) c;
      before = before_now t.addr x ls us _ e.at (r.swap (x ∷ [])) c.row ∙ sym r.before;
      behind = behind_now t.addr x ls us _ e.at (r.swap (x ∷ [])) c.row ∙ sym r.behind;
    }

pub exchanged : (t x : Tile) (ts : List Tile) → Row ts → IsExchange t x ts → IsExchanged t x ts
exchanged t x ts row e = at_place (λ xs. Row xs → IsExchange t x xs → IsExchanged t x xs) t ts e.found (exchanged_in t x) row e

-- ---- a tile becomes two

pub record IsParting (t x y : Tile) (ts : List Tile) : Type 0 where
  pub found : tile_at t.addr ts ≡ Some t
  pub first : IsTile x
  pub second : IsTile y
  pub at : x.addr ≡ t.addr
  pub joins : end_of x ≡ y.addr
  pub end : end_of y ≡ end_of t
  pub edge : is_edge y ≡ is_edge t
  pub neither : (is_free x || is_top x) ≡ false
  pub not_free : is_free y ≡ false

pub record IsParted (t x y : Tile) (ts : List Tile) : Type 0 where
  pub changed : IsChanged ts (swapped t.addr (x ∷ y ∷ []) ts) (t ∷ []) (x ∷ y ∷ [])
  pub before : tile_before t.addr (swapped t.addr (x ∷ y ∷ []) ts) ≡ tile_before t.addr ts
  pub second : tile_before y.addr (swapped t.addr (x ∷ y ∷ []) ts) ≡ Some x
  pub behind : tile_behind y.addr (swapped t.addr (x ∷ y ∷ []) ts) ≡ tile_behind t.addr ts

parted_in : (t x y : Tile) (ls us : List Tile) → Row (onto ls (t ∷ us)) → IsParting t x y (onto ls (t ∷ us)) → IsParted t x y (onto ls (t ∷ us))
parted_in t x y ls us row e =
    let r = read ls t us row in
    let here : Row (t ∷ us) = row_behind ls (t ∷ us) row in
    let free : is_free x ≡ false = (or_parts (is_free x) (is_top x) e.neither).0 in
    let meets : Meets x y = record { order = omega (arith, e.joins); joins = λ no. e.joins; apart = and_left (is_free x) (is_free y || is_top y) free } in
    let last : Leads y us = leads_as t y us here.1 e.end e.edge (may_follow y (slice_get us 0) e.not_free) in
    let new : Row (x ∷ y ∷ us) = (e.first, meets, (e.second, last, here.2)) in
    let first : Led ls (x ∷ y ∷ us) = led_as ls t x us (y ∷ us) (led ls (t ∷ us) row) e.at (may_lead x (slice_get ls 0) e.neither) in
    let c : IsChanged (onto ls (t ∷ us)) (onto ls (x ∷ y ∷ us)) (t ∷ []) (x ∷ y ∷ []) = changed_at ls (t ∷ []) us (x ∷ y ∷ []) row new first in
    let is = r.swap (x ∷ y ∷ []) in
    record {
      changed = subst (λ n. IsChanged (onto ls (t ∷ us)) n (t ∷ []) (x ∷ y ∷ [])) (sym is) c;
      before = before_now t.addr x ls (y ∷ us) _ e.at is c.row ∙ sym r.before;
      second = before_now y.addr y (x ∷ ls) us _ refl is c.row;
      behind = behind_now y.addr y (x ∷ ls) us _ refl is c.row ∙ sym r.behind;
    }

pub parted_row : (t x y : Tile) (ts : List Tile) → Row ts → IsParting t x y ts → IsParted t x y ts
parted_row t x y ts row e = at_place (λ xs. Row xs → IsParting t x y xs → IsParted t x y xs) t ts e.found (parted_in t x y) row e

-- ---- an edge gets another size

pub record IsResizing (t x : Tile) (ts : List Tile) : Type 0 where
  pub found : tile_at t.addr ts ≡ Some t
  pub tile : IsTile x
  pub at : x.addr ≡ t.addr
  pub kind : x.kind ≡ t.kind
  pub edge : is_edge t ≡ true
  pub room : IfSome (tile_behind t.addr ts) (λ u. end_of x ≤ u.addr)

pub edge_not_free : (k : TileKind) → is_edge (tile_of k 0 0) ≡ true → is_free (tile_of k 0 0) ≡ false
edge_not_free Used e = absurd cc
edge_not_free Free e = absurd cc
edge_not_free Top e = refl
edge_not_free Fence e = refl

pub resized_leads : (t x : Tile) (us : List Tile) → Leads t us → is_edge x ≡ true → IfSome (slice_get us 0) (λ u. end_of x ≤ u.addr) → Leads x us
resized_leads t x [] h edge room = edge
resized_leads t x (u ∷ us) h edge room = record {
  order = room;
  joins = λ no. absurd cc;
  apart = and_left (is_free x) (is_free u || is_top u) (edge_not_free x.kind edge);
}

resized_led : (ls : List Tile) (t x : Tile) (us : List Tile) → Led ls (t ∷ us) → x.addr ≡ t.addr → x.kind ≡ t.kind → Led ls (x ∷ us)
resized_led [] t x us h at kind = tt
resized_led (l ∷ ls) t x us h at kind = record {
  order = omega (arith, h.order, at);
  joins = λ no. h.joins no ∙ sym at;
  apart = subst (λ k. is_free l && (is_free (tile_of k 0 0) || is_top (tile_of k 0 0)) ≡ false) (sym kind) h.apart;
}

resized_in : (t x : Tile) (ls us : List Tile) → Row (onto ls (t ∷ us)) → IsResizing t x (onto ls (t ∷ us)) → IsChanged (onto ls (t ∷ us)) (swapped t.addr (x ∷ []) (onto ls (t ∷ us))) (t ∷ []) (x ∷ [])
resized_in t x ls us row e =
    let r = read ls t us row in
    let here : Row (t ∷ us) = row_behind ls (t ∷ us) row in
    let edge : is_edge x ≡ true = subst (λ k. is_edge (tile_of k 0 0) ≡ true) (sym e.kind) e.edge in
    let new : Row (x ∷ us) = (e.tile, resized_leads t x us here.1 edge (subst (λ o. IfSome o (λ u. end_of x ≤ u.addr)) r.behind e.room), here.2) in
    subst (λ n. IsChanged (onto ls (t ∷ us)) n (t ∷ []) (x ∷ [])) (sym (r.swap (x ∷ [])))
    (changed_at ls (t ∷ []) us (x ∷ []) row new (resized_led ls t x us (led ls (t ∷ us) row) e.at e.kind))

pub resized : (t x : Tile) (ts : List Tile) → Row ts → IsResizing t x ts → IsChanged ts (swapped t.addr (x ∷ []) ts) (t ∷ []) (x ∷ [])
resized t x ts row e =
    at_place (λ xs. Row xs → IsResizing t x xs → IsChanged xs (swapped t.addr (x ∷ []) xs) (t ∷ []) (x ∷ [])) t ts e.found (resized_in t x) row e

-- ---- a tile and the next one become one

pub record IsFusion (t u x : Tile) (ts : List Tile) : Type 0 where
  pub next : AreNeighbours t u ts
  pub at : x.addr ≡ t.addr
  pub size : x.size ≡ t.size + u.size
  pub inner : is_edge t ≡ false
  pub edge : is_edge x ≡ is_edge u
  pub not_free : is_free x ≡ false
  pub before : MayLead x (tile_before t.addr ts)

pub record IsFused (t u x : Tile) (ts : List Tile) : Type 0 where
  pub changed : IsChanged ts (fused t.addr x ts) (t ∷ u ∷ []) (x ∷ [])
  pub before : tile_before t.addr (fused t.addr x ts) ≡ tile_before t.addr ts
  pub behind : tile_behind t.addr (fused t.addr x ts) ≡ tile_behind u.addr ts

fused_in : (t u x : Tile) (ls us : List Tile) → Row (onto ls (t ∷ u ∷ us)) → IsFusion t u x (onto ls (t ∷ u ∷ us)) → IsFused t u x (onto ls (t ∷ u ∷ us))
fused_in t u x ls us row e =
    let r = read ls t (u ∷ us) row in
    let s = read (t ∷ ls) u us row in
    let here : Row (t ∷ u ∷ us) = row_behind ls (t ∷ u ∷ us) row in
    let joins = here.1.joins e.inner in
    let tile : IsTile x = record {
      size = (omega (arith, e.size, here.0.size.0), omega (arith, e.size, here.0.size.1, here.2.0.size.1));
      place = omega (arith, e.at, here.0.place);
    } in
    let last : Leads x us = leads_as u x us here.2.1 (omega (arith, e.at, e.size, joins)) e.edge (may_follow x (slice_get us 0) e.not_free) in
    let new : Row (x ∷ us) = (tile, last, here.2.2) in
    let first : Led ls (x ∷ us) = led_as ls t x (u ∷ us) us (led ls (t ∷ u ∷ us) row) e.at (subst (MayLead x) r.before e.before) in
    let c : IsChanged (onto ls (t ∷ u ∷ us)) (onto ls (x ∷ us)) (t ∷ u ∷ []) (x ∷ []) = changed_at ls (t ∷ u ∷ []) us (x ∷ []) row new first in
    record {
      changed = subst (λ n. IsChanged (onto ls (t ∷ u ∷ us)) n (t ∷ u ∷ []) (x ∷ [])) (sym (r.fuse x)) c;
      before = before_now t.addr x ls us _ e.at (r.fuse x) c.row ∙ sym r.before;
      behind = behind_now t.addr x ls us _ e.at (r.fuse x) c.row ∙ sym s.behind;
    }

pub fused_row : (t u x : Tile) (ts : List Tile) → Row ts → IsFusion t u x ts → IsFused t u x ts
fused_row t u x ts row e =
    at_place (λ xs. Row xs → IsFusion t u x xs → IsFused t u x xs) t ts e.next.first (λ ls us row e.
    first_is (λ vs. Row (onto ls (t ∷ vs)) → IsFusion t u x (onto ls (t ∷ vs)) → IsFused t u x (onto ls (t ∷ vs))) u us (sym (read ls t us row).behind ∙ e.next.behind) (fused_in t u x ls) row e) row e
