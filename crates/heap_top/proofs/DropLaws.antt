-- The tiles after the last heap of another arena is dropped.
use Rattle.std.proofs.Common.{◌≡◌, ℕ, ◌+◌, ◌-◌, ◌<◌, ◌≤◌, ◌^◌, ◌≢◌, Bool, true, false, cond, List, [], ◌∷◌, ◌++◌, length, length-append, Option, Some, None, IsTrue, true≢false, refl, sym, ap, ◌∙◌, subst, inl, inr, arith}
use Rattle.std.specs.Prelude.{nat_eq}
use Rattle.std.specs.List.{AllByRecursion}
use Rattle.std.proofs.lemmas.Bool.{eq-eqb, ne_eqb, cond-true, cond-false}
use Rattle.std.proofs.lemmas.Bool.Decides.{eqb_tells}
use Rattle.chunk_tags.specs.Tiles.{is_free, is_edge, end_of, Row, swapped, fused, tile_at, tile_before, top_of}
use Rattle.chunk_tags.specs.declared.tiles.Tile.{Tile}
use Rattle.chunk_tags.specs.declared.tiles.TileKind.TheVariants.{Top}
use Rattle.chunk_image.specs.Rows.{tile_ending}
use Rattle.chunk_image.proofs.Rows.{ending_found}
use Rattle.arena_rules.specs.PlainArena.{Plain, HeapWindows, tiled_bytes}
use Rattle.arena_rules.specs.Moves.{tile_of, top_start}
use Rattle.arena_rules.specs.HeapPlaces.{IsHeapLength, IsHeapPlaced}
use Rattle.arena_rules.specs.Heaps.{end_before, end_before_heap, end_start, free_part, heap_start, is_first_in_heap, last_length, without_heap}
use Rattle.arena_rules.specs.declared.heap_end.HeapEnd.{HeapEnd}
use Rattle.arena_rules.proofs.Changes.{AreNeighbours, neighbours_before}
use Rattle.arena_rules.proofs.ChunkMoves.{free_is}
use Rattle.arena_rules.proofs.Heaps.{IsEndBefore, end_is}
use Rattle.arena_rules.proofs.HeapEnds.{IsEndFence, IsEndFound, end_found, end_is_fence, end_some, no_end, none_first}
use Rattle.arena_rules.proofs.Lookups.{swapped_other, fused_other}
use Rattle.arena_rules.proofs.Rows.{onto, at_place, first_is, front_ends, read, swapped_here, Ends}
use Rattle.arena_rules.proofs.Tops.{top_found}
use Rattle.heap_top.specs.Regions.{is_top_first, reopened_tiles, HasTop, IsBeforeFence}
use Rattle.heap_top.proofs.TopLaws.{came_at, fused_here, pair_below}

-- ---- two changes of a row

-- a tile that goes, and another one that becomes one at its own address
swaps_commute : (at n : ℕ) (x : Tile) (ts : List Tile) → x.addr ≡ at → at ≢ n → swapped n [] (swapped at (x ∷ []) ts) ≡ swapped at (x ∷ []) (swapped n [] ts)
swaps_commute at n x [] here ne = refl
swaps_commute at n x (t ∷ ts) here ne =
    elim (eqb_tells t.addr at) [
      | inl e ↦ rw (e.0, ne_eqb t.addr n (λ same. ne (sym e.1 ∙ same)), ne_eqb x.addr n (λ same. ne (sym here ∙ same))) (rw e.0 refl)
      | inr e ↦ elim (eqb_tells t.addr n) [
        | inl f ↦ rw (e.0, f.0) refl
        | inr f ↦ rw (e.0, f.0) (rw e.0 (ap (λ us. t ∷ us) (swaps_commute at n x ts here ne)))
      ]
    ]

-- a free chunk and the fence behind it become one tile, and the tile behind them goes
fused_dropped : (u f t x : Tile) (ls us : List Tile) → Row (onto ls (u ∷ f ∷ t ∷ us)) → x.addr ≡ u.addr → swapped t.addr [] (fused u.addr x (onto ls (u ∷ f ∷ t ∷ us))) ≡ swapped f.addr (x ∷ []) (swapped t.addr [] (swapped u.addr [] (onto ls (u ∷ f ∷ t ∷ us))))
fused_dropped u f t x ls us row here =
    let behind : Ends t.addr (f ∷ u ∷ ls) = front_ends (f ∷ u ∷ ls) t us row in
    let first : swapped t.addr [] (onto (x ∷ ls) (t ∷ us)) ≡ onto (x ∷ ls) us = swapped_here (x ∷ ls) t us [] (omega (arith, behind.1.0, here), behind.1.1) in
    let one : swapped u.addr [] (onto ls (u ∷ f ∷ t ∷ us)) ≡ onto ls (f ∷ t ∷ us) = swapped_here ls u (f ∷ t ∷ us) [] (front_ends ls u (f ∷ t ∷ us) row) in
    let two : swapped t.addr [] (onto ls (f ∷ t ∷ us)) ≡ onto ls (f ∷ us) = swapped_here (f ∷ ls) t us [] (behind.0, behind.1.1) in
    let three : swapped f.addr (x ∷ []) (onto ls (f ∷ us)) ≡ onto ls (x ∷ us) = swapped_here ls f us (x ∷ []) (front_ends (u ∷ ls) f (t ∷ us) row).1 in
    ap (swapped t.addr []) ((read ls u (f ∷ t ∷ us) row).fuse x)
    ∙ (first ∙ sym (ap (λ ts. swapped f.addr (x ∷ []) (swapped t.addr [] ts)) one ∙ (ap (swapped f.addr (x ∷ [])) two ∙ three)))

abbrev Drops : Tile → Tile → Tile → Tile → List Tile → Type 0
Drops u f t x ts = Row ts → swapped t.addr [] (fused u.addr x ts) ≡ swapped f.addr (x ∷ []) (swapped t.addr [] (swapped u.addr [] ts))

free_end_dropped : (u f t x : Tile) (ts : List Tile) → Row ts → AreNeighbours u f ts → AreNeighbours f t ts → x.addr ≡ u.addr → Drops u f t x ts
free_end_dropped u f t x ts row before next here =
    at_place (λ xs. Row xs → AreNeighbours u f xs → AreNeighbours f t xs → Drops u f t x xs) u ts before.first (λ ls us row before next.
    first_is (λ vs. Row (onto ls (u ∷ vs)) → AreNeighbours f t (onto ls (u ∷ vs)) → Drops u f t x (onto ls (u ∷ vs))) f us (sym (read ls u us row).behind ∙ before.behind) (λ vs row next.
    first_is (λ ws. Row (onto ls (u ∷ f ∷ ws)) → Drops u f t x (onto ls (u ∷ f ∷ ws))) t vs (sym (read (u ∷ ls) f vs row).behind ∙ next.behind) (λ ws row again.
    fused_dropped u f t x ls ws row here) row) row next) row before next

-- ---- the end of the heap before

record IsFreePart (u : Tile) (o : Option Tile) : Type 0 where
  found : o ≡ Some u
  free : is_free u ≡ true

free_part_is : (u : Tile) (o : Option Tile) → free_part o ≡ Some u → IsFreePart u o
free_part_is u None e = absurd cc
free_part_is u (Some v) e =
    let cases : (b : Bool) → is_free v ≡ b → cond b (Some v) None ≡ Some u → IsFreePart u (Some v) = elim [
      | true ↦ λ is h. let same : v ≡ u = cc in record { found = ap (λ (t : Tile). Some t) same; free = ap is_free (sym same) ∙ is }
      | false ↦ λ is h. absurd cc
    ] in
    cases (is_free v) refl e

pub end_of_heap : (a : Plain) (t : Tile) (e : HeapEnd) → top_of a.tiles ≡ Some t → end_before_heap a ≡ Some e → end_before a t ≡ Some e
end_of_heap a t e top is =
    let f : IsEndFound a e = end_found a e is in
    let same : f.tile ≡ t = same_top f.tile t (sym f.top ∙ top) in
    ap (end_before a) (sym same) ∙ f.end
  where
    same_top : (t u : Tile) → let o : Option Tile = Some t in o ≡ Some u → t ≡ u
    same_top t u e = cc

-- there is a heap before the last one
pub some_closed : (a : Plain) (closed : List ℕ) (e : HeapEnd) → Row a.tiles → IsHeapPlaced a closed → end_before_heap a ≡ Some e → 0 < length closed
some_closed a [] e row p is = absurd (some_not_none e (sym is ∙ no_end a row p))
  where
    some_not_none : (e : HeapEnd) → let o : Option HeapEnd = Some e in o ≡ None → ⊥
    some_not_none e h = cc
some_closed a (len ∷ lens) e row p is = omega arith

-- ---- where it is found

record IsFirstTop (a : Plain) : Type 0 where
  tile : Tile
  top : top_of a.tiles ≡ Some tile
  first : is_first_in_heap a tile ≡ true

first_top : (a : Plain) → IsTrue (is_top_first a) → IsFirstTop a
first_top a first = go (top_of a.tiles) refl
  where
    go : (o : Option Tile) → top_of a.tiles ≡ o → IsFirstTop a
    go None e = absurd (true≢false (sym first ∙ ap (λ (o : Option Tile). elim o [ None ↦ false | Some top ↦ is_first_in_heap a top ]) e))
    go (Some t) e = record { tile = t; top = e; first = sym (ap (λ (o : Option Tile). elim o [ None ↦ false | Some top ↦ is_first_in_heap a top ]) e) ∙ first }

pub first_has_closed : (a : Plain) (closed : List ℕ) → Row a.tiles → IsHeapPlaced a closed → IsTrue (is_top_first a) → 0 < length closed
first_has_closed a [] row p first =
    let t : IsFirstTop a = first_top a first in
    absurd (true≢false (sym t.first ∙ none_first a t.tile row p t.top))
first_has_closed a (len ∷ lens) row p first = omega arith

pub not_first : (a : Plain) → is_top_first a ≡ false → end_before_heap a ≡ None
not_first a other = go (top_of a.tiles) refl
  where
    go : (o : Option Tile) → top_of a.tiles ≡ o → end_before_heap a ≡ None
    go None e = ap (λ (o : Option Tile). elim o [ None ↦ None | Some top ↦ cond (is_first_in_heap a top) (end_before a top) None ]) e
    go (Some t) e =
        let is : is_first_in_heap a t ≡ false = sym (ap (λ (o : Option Tile). elim o [ None ↦ false | Some top ↦ is_first_in_heap a top ]) e) ∙ other in
        ap (λ (o : Option Tile). elim o [ None ↦ None | Some top ↦ cond (is_first_in_heap a top) (end_before a top) None ]) e ∙ ap (λ b. cond b (end_before a t) None) is

-- the end of the last of the closed heaps
pub record IsClosedEnd (a : Plain) (closed : List ℕ) (len : ℕ) : Type 0 where
  pub fence : Tile
  pub found : tile_at fence.addr a.tiles ≡ Some fence
  pub ending : tile_ending (heap_start a (length closed - 1) + len) a.tiles ≡ Some fence
  pub fits : len ≤ a.windows.heap_max
  pub is : end_before_heap a ≡ Some (record { fence = fence; before = free_part (tile_before fence.addr a.tiles); room = a.windows.heap_max - len })

last_length_is : (w : HeapWindows) (front : List ℕ) (len : ℕ) → AllByRecursion (IsHeapLength w) (front ++ len ∷ []) → IsHeapLength w len
last_length_is w [] len all = all.0
last_length_is w (x ∷ xs) len all = last_length_is w xs len all.1

pub closed_end : (a : Plain) (closed : List ℕ) (len : ℕ) → Row a.tiles → IsHeapPlaced a closed → (front : List ℕ) × (closed ≡ front ++ len ∷ []) → IsTrue (is_top_first a) → IsClosedEnd a closed len
closed_end a closed len row p split first =
    let front : List ℕ = split.0 in
    let p2 : IsHeapPlaced a (front ++ len ∷ []) = subst (IsHeapPlaced a) split.1 p in
    let t : IsFirstTop a = first_top a first in
    let f : IsEndFence a front len t.tile = end_is_fence a front len t.tile row p2 t.top t.first in
    let count : length closed - 1 ≡ length front = omega (arith, ap length split.1, length-append front (len ∷ [])) in
    let at : end_of f.fence ≡ heap_start a (length closed - 1) + len = f.ends ∙ ap (λ n. heap_start a n + len) (sym count) in
    record {
      fence = f.fence;
      found = f.next.first;
      ending = ap (λ n. tile_ending n a.tiles) (sym at) ∙ ending_found a.tiles f.fence row f.next.first;
      fits = (last_length_is a.windows front len p2.each).window;
      is = end_some a front len t.tile t.top t.first f;
    }

-- ---- what stands there

-- top, the fence before it, and the free chunk before that
pub record IsHeapEnd (a : Plain) (t : Tile) (e : HeapEnd) : Type 0 where
  pub row : Row a.tiles
  pub top : top_of a.tiles ≡ Some t
  pub next : AreNeighbours e.fence t a.tiles
  pub free : (u : Tile) → e.before ≡ Some u → is_free u ≡ true
  pub before : (u : Tile) → e.before ≡ Some u → AreNeighbours u e.fence a.tiles

pub heap_end : (a : Plain) (t : Tile) (e : HeapEnd) → Row a.tiles → top_of a.tiles ≡ Some t → end_before_heap a ≡ Some e → IsHeapEnd a t e
heap_end a t e row top is =
    let b : IsEndBefore a t e = end_is a t e (end_of_heap a t e top is) in
    let next : AreNeighbours e.fence t a.tiles = neighbours_before e.fence t a.tiles row (top_found t a.tiles row top).found b.fence in
    record {
      row = row;
      top = top;
      next = next;
      free = λ u h. (free_part_is u (tile_before e.fence.addr a.tiles) (sym b.before ∙ h)).free;
      before = λ u h. neighbours_before u e.fence a.tiles row next.first (free_part_is u (tile_before e.fence.addr a.tiles) (sym b.before ∙ h)).found;
    }

pub before_fence : (a : Plain) (t u : Tile) (e : HeapEnd) → tiled_bytes a < 2 ^ 34 → IsHeapEnd a t e → e.before ≡ Some u → IsBeforeFence u e.fence a.tiles
before_fence a t u e below h is =
    let n : AreNeighbours u e.fence a.tiles = h.before u is in
    record { found = n.first; chunk = not_edge u (h.free u is); behind = n.behind; below = pair_below a.tiles u e.fence u.addr below n.first n.behind }
  where
    not_edge : (u : Tile) → is_free u ≡ true → is_edge u ≡ false
    not_edge u free = ap is_edge (free_is u free)

-- ---- the tiles without top, and with the end as top

some_room : (f t : Tile) (ts : List Tile) → AreNeighbours f t ts → f.addr < t.addr
some_room f t ts next = omega (arith, next.meets.order, next.tile.size.0)

-- top stands yet where the end became one tile
pub top_stands : (a : Plain) (t : Tile) (e : HeapEnd) → IsHeapEnd a t e → tile_at t.addr (reopened_tiles e a.tiles) ≡ Some t
top_stands a t e h = go e.before refl
  where
    go : (o : Option Tile) → e.before ≡ o → tile_at t.addr (reopened_tiles (record e { before = o }) a.tiles) ≡ Some t
    go None is =
        let f : Tile = e.fence in
        let x : Tile = record f { kind = Top } in
        let low : f.addr < t.addr = some_room f t a.tiles h.next in
        swapped_other f.addr t.addr (x ∷ []) a.tiles (λ same. omega (arith, same, low)) (cond-false (nat_eq x.addr t.addr) (Some x) None (ne_eqb x.addr t.addr (λ same. omega (arith, same, low)))) ∙ h.next.second
    go (Some u) is =
        let f : Tile = e.fence in
        let n : AreNeighbours u f a.tiles = h.before u is in
        let low : f.addr < t.addr = some_room f t a.tiles h.next in
        let lower : u.addr < f.addr = some_room u f a.tiles n in
        fused_other u.addr t.addr f (record u { size = u.size + f.size; kind = Top }) a.tiles (λ same. omega (arith, same, low, lower)) (λ same. omega (arith, same, low)) refl n.behind ∙ h.next.second

pub dropped_has_top : (a : Plain) (t : Tile) (e : HeapEnd) → IsHeapEnd a t e → HasTop (Some (end_start e)) (swapped t.addr [] (reopened_tiles e a.tiles))
dropped_has_top a t e h = go e.before refl
  where
    go : (o : Option Tile) → e.before ≡ o → HasTop (Some (end_start (record e { before = o }))) (swapped t.addr [] (reopened_tiles (record e { before = o }) a.tiles))
    go None is =
        let f : Tile = e.fence in
        let x : Tile = record f { kind = Top } in
        let low : f.addr < t.addr = some_room f t a.tiles h.next in
        record {
          at = f.addr;
          size = f.size;
          known = refl;
          stands = swapped_other t.addr f.addr [] (swapped f.addr (x ∷ []) a.tiles) (λ same. omega (arith, same, low)) refl
              ∙ came_at f.addr f.addr (x ∷ []) a.tiles f x h.next.first (inl refl) (cond-true (nat_eq f.addr f.addr) (Some x) None (eq-eqb f.addr f.addr refl));
        }
    go (Some u) is =
        let f : Tile = e.fence in
        let x : Tile = record u { size = u.size + f.size; kind = Top } in
        let n : AreNeighbours u f a.tiles = h.before u is in
        let low : f.addr < t.addr = some_room f t a.tiles h.next in
        let lower : u.addr < f.addr = some_room u f a.tiles n in
        record {
          at = u.addr;
          size = u.size + f.size;
          known = refl;
          stands = swapped_other t.addr u.addr [] (fused u.addr x a.tiles) (λ same. omega (arith, same, low, lower)) refl ∙ fused_here u.addr x u a.tiles n.first refl;
        }

pub dropped_is : (a : Plain) (t : Tile) (e : HeapEnd) → IsHeapEnd a t e → record a { tiles = swapped t.addr [] (reopened_tiles e a.tiles); system = a.system - last_length a } ≡ record (without_heap a e) { bins = a.bins }
dropped_is a t e h = go e.before refl
  where
    start : t.addr ≡ top_start a
    start = sym (ap (λ (o : Option Tile). elim o [ None ↦ 0 | Some t ↦ t.addr ]) h.top)

    go : (o : Option Tile) → e.before ≡ o → record a { tiles = swapped t.addr [] (reopened_tiles (record e { before = o }) a.tiles); system = a.system - last_length a } ≡ record (without_heap a (record e { before = o })) { bins = a.bins }
    go None is =
        let f : Tile = e.fence in
        let low : f.addr < t.addr = some_room f t a.tiles h.next in
        let made : List Tile → Plain = λ ts. record a { tiles = ts; system = a.system - last_length a } in
        ap made (swaps_commute f.addr t.addr (record f { kind = Top }) a.tiles refl (λ same. omega (arith, same, low)))
        ∙ (ap (λ n. made (swapped f.addr (tile_of Top f.addr n ∷ []) (swapped t.addr [] a.tiles))) (let same : f.size ≡ f.size + 0 = omega arith in same)
        ∙ ap (λ n. made (swapped f.addr (tile_of Top f.addr (f.size + 0) ∷ []) (swapped n [] a.tiles))) start)
    go (Some u) is =
        let f : Tile = e.fence in
        let made : List Tile → Plain = λ ts. record a { tiles = ts; system = a.system - last_length a } in
        ap made (free_end_dropped u f t (record u { size = u.size + f.size; kind = Top }) a.tiles h.row (h.before u is) h.next refl h.row)
        ∙ (ap (λ n. made (swapped f.addr (tile_of Top u.addr n ∷ []) (swapped t.addr [] (swapped u.addr [] a.tiles)))) (let same : u.size + f.size ≡ f.size + u.size = omega arith in same)
        ∙ ap (λ n. made (swapped f.addr (tile_of Top u.addr (f.size + u.size) ∷ []) (swapped n [] (swapped u.addr [] a.tiles)))) start)
