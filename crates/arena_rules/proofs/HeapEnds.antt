-- Laws of the end of a heap and of heaps that are dropped, for this crate and those above it: where top is the first chunk
-- of its heap a fence ends the heap before, and without its last heap an arena is placed still.
use Rattle.std.proofs.Common.{◌≡◌, ℕ, ◌+◌, ◌-◌, ◌<◌, ◌≤◌, Bool, true, false, cond, List, [], ◌∷◌, ◌++◌, length, Option, Some, None, IfSome, refl, sym, ap, ◌∙◌, subst, inl, inr, arith}
use Rattle.std.specs.Prelude.{slice_get, sum_by}
use Rattle.std.specs.List.{AllByRecursion}
use Rattle.std.proofs.lemmas.Bool.{cases_lt, eqb-true, ne_eqb}
use Rattle.std.proofs.lemmas.List.Sums.{sum_by-cons, sum_by_push}
use Rattle.chunk_tags.specs.Tiles.{is_top, is_edge, end_of, Row, swapped, tile_at, tile_before, top_of}
use Rattle.chunk_tags.specs.declared.tiles.Tile.{Tile}
use Rattle.chunk_tags.specs.declared.tiles.TileKind.TheVariants.{Top}
use Rattle.arena_rules.specs.PlainArena.{Plain, IsSound, beside}
use Rattle.arena_rules.specs.MainPlaces.{covers, times_covered}
use Rattle.arena_rules.specs.Moves.{tile_of, with_tiles, top_size, top_start}
use Rattle.arena_rules.specs.declared.heap_end.HeapEnd.{HeapEnd}
use Rattle.arena_rules.specs.Heaps.{header_bytes, heap_start, heap_index, heap_length, last_length, free_part, end_before, is_first_in_heap, end_before_heap, end_bytes, end_start, without_free_part, without_heap}
use Rattle.arena_rules.specs.HeapPlaces.{IsHeapLength, times_in_heap, times_in_heaps, IsHeapPlaced}
use Rattle.arena_rules.proofs.Rows.{onto, at_place, begins_above, behind_begins, read, row_behind, sum_by_onto}
use Rattle.arena_rules.proofs.Changes.{AreNeighbours, neighbours_before, tile_is}
use Rattle.arena_rules.proofs.Covered.{covers_adds, covers_none, none_from, weight_byte}
use Rattle.arena_rules.proofs.Heaps.{IsFreePart, free_part_is, IsEndBefore, end_is, heap_dropped}
use Rattle.arena_rules.proofs.HeapRanges.{start_next, index_in, header_least, header_most, header_next, not_in_heap, in_heap, behind_closed, heaps_push}
use Rattle.arena_rules.proofs.HeapTiles.{misses_byte, HasLastTop, last_top, top_begins, refilled}
use Rattle.arena_rules.proofs.HeapPlaces.{IsHeapMove, gains_of}
use Rattle.arena_rules.proofs.Lookups.{some_is, swapped_other}
use Rattle.arena_rules.proofs.ChunkMoves.{free_is}
use Rattle.arena_rules.proofs.NewTops.{top_swapped, swapped_sum, fewer_tiles, no_more_tiles}
use Rattle.arena_rules.proofs.Moved.{Moved, Measure, none, nothing, moved_as, bytes_moved, weight_top, top_to}
use Rattle.arena_rules.proofs.Tops.{IsTopOf, top_found}

-- ---- bytes between a tile and the one before it

front_ended : (ls : List Tile) (l : Tile) (ts : List Tile) (n : ℕ) → Row (onto ls (l ∷ ts)) → l.addr ≤ n → IfSome (slice_get ls 0) (λ m. end_of m ≤ n)
front_ended [] l ts n row le = tt
front_ended (m ∷ ls) l ts n row le = let here : Row (m ∷ l ∷ ts) = row_behind ls (m ∷ l ∷ ts) row in omega (arith, here.1.order, le)

front_bare : (n : ℕ) (ls ts : List Tile) → Row (onto ls ts) → IfSome (slice_get ls 0) (λ l. end_of l ≤ n) → sum_by (weight_byte n) ls ≡ 0
front_bare n [] ts row ended = refl
front_bare n (l ∷ ls) ts row ended =
    omega (
      arith,
      sum_by-cons (weight_byte n) l ls,
      covers_none n l.addr l.size (inr ended),
      front_bare n ls (l ∷ ts) row (front_ended ls l ts n row (omega (arith, ended))),
    )

-- what is to be shown of a row
abbrev IsBareBefore : Tile → ℕ → List Tile → Type 0
IsBareBefore u n xs = Row xs → IfSome (tile_before u.addr xs) (λ t. end_of t ≤ n) → sum_by (weight_byte n) xs ≡ 0

bare_before : (u : Tile) (n : ℕ) (ts : List Tile) → Row ts → tile_at u.addr ts ≡ Some u → IfSome (tile_before u.addr ts) (λ t. end_of t ≤ n) → n < u.addr → sum_by (weight_byte n) ts ≡ 0
bare_before u n ts row found ended lt =
    at_place (IsBareBefore u n) u ts found (λ ls us row ended.
    let here : Row (u ∷ us) = row_behind ls (u ∷ us) row in
    let front : sum_by (weight_byte n) ls ≡ 0 = front_bare n ls (u ∷ us) row (subst (λ o. IfSome o (λ t. end_of t ≤ n)) (read ls u us row).before ended) in
    let behind : sum_by (weight_byte n) (u ∷ us) ≡ 0 = none_from n (u ∷ us) (omega (arith, lt), begins_above (end_of u) (n + 1) us (omega (arith, lt)) (behind_begins u us here)) in
    omega (arith, sum_by_onto (weight_byte n) ls (u ∷ us), front, behind)) row ended

-- ---- the heap before the last one

abbrev with_last : List ℕ → ℕ → List ℕ
with_last closed len = closed ++ len ∷ []

length_with : (ls : List ℕ) (n : ℕ) → length (with_last ls n) ≡ length ls + 1
length_with [] n = refl
length_with (l ∷ ls) n = omega (arith, length_with ls n)

-- each of these, and the last one
record AreAllAnd (P : ℕ → Type 0) (ls : List ℕ) (n : ℕ) : Type 0 where
  all : AllByRecursion P ls
  last : P n

all_and : (P : ℕ → Type 0) (ls : List ℕ) (n : ℕ) → AllByRecursion P (with_last ls n) → AreAllAnd P ls n
all_and P [] n all = record { all = tt; last = all.0 }
all_and P (l ∷ ls) n all = let rest : AreAllAnd P ls n = all_and P ls n all.1 in record { all = (all.0, rest.all); last = rest.last }

filled_two : (a : Plain) (closed : List ℕ) (len n : ℕ) → IsHeapPlaced a (with_last closed len) → times_covered n a ≡ times_in_heaps a 0 closed n + times_in_heap a (length closed) len n + times_in_heap a (length closed + 1) (last_length a) n
filled_two a closed len n p =
    omega (arith, p.filled n, heaps_push a closed len n, ap (λ h. times_in_heap a h (last_length a) n) (length_with closed len))

-- from its end on to the first chunk of the next one
bare_end : (a : Plain) (closed : List ℕ) (len n : ℕ) → IsHeapPlaced a (with_last closed len) → heap_start a (length closed) + len ≤ n → n < heap_start a (length closed + 1) + 32 → times_covered n a ≡ 0
bare_end a closed len n p ge lt =
    let all : AreAllAnd (IsHeapLength a.windows) closed len = all_and (IsHeapLength a.windows) closed len p.each in
    omega (
      arith,
      filled_two a closed len n p,
      behind_closed a closed n all.all (omega (arith, ge)),
      not_in_heap a (length closed) len n all.last (inr ge),
      not_in_heap a (length closed + 1) (last_length a) n p.last (inl (omega (arith, lt, header_next (length closed)))),
    )

bare_head : (a : Plain) (closed : List ℕ) (len n : ℕ) → IsHeapPlaced a (with_last closed len) → heap_start a (length closed) ≤ n → n < heap_start a (length closed) + header_bytes (length closed) → times_covered n a ≡ 0
bare_head a closed len n p ge lt =
    let all : AreAllAnd (IsHeapLength a.windows) closed len = all_and (IsHeapLength a.windows) closed len p.each in
    omega (
      arith,
      filled_two a closed len n p,
      behind_closed a closed n all.all ge,
      not_in_heap a (length closed) len n all.last (inl lt),
      not_in_heap a (length closed + 1) (last_length a) n p.last
          (inl (omega (arith, lt, header_most (length closed), all.last.some, all.last.window, start_next a (length closed)))),
    )

in_second : (a : Plain) (closed : List ℕ) (len n : ℕ) → IsHeapPlaced a (with_last closed len) → heap_start a (length closed) + header_bytes (length closed) ≤ n → n < heap_start a (length closed) + len → 0 < times_covered n a
in_second a closed len n p ge lt = omega (arith, filled_two a closed len n p, in_heap a (length closed) len n ge lt)

-- ---- the fence

pub record IsEndFence (a : Plain) (closed : List ℕ) (len : ℕ) (top : Tile) : Type 0 where
  pub fence : Tile
  pub next : AreNeighbours fence top a.tiles
  pub begins : heap_start a (length closed) + header_bytes (length closed) ≤ fence.addr
  pub ends : end_of fence ≡ heap_start a (length closed) + len
  pub gap : end_of fence < top.addr
  pub size : heap_length a fence ≡ len
  pub place : top.addr ≡ heap_start a (length closed + 1) + 32

-- the tile before top, which has the last byte of the heap before
end_tile : (a : Plain) (closed : List ℕ) (len : ℕ) (top : Tile) → Row a.tiles → IsHeapPlaced a (with_last closed len) → tile_at top.addr a.tiles ≡ Some top → top.addr ≡ heap_start a (length closed + 1) + 32 → IsEndFence a closed len top
end_tile a closed len top row p found at =
    let start : ℕ = heap_start a (length closed) in
    let head : ℕ = header_bytes (length closed) in
    let l : IsHeapLength a.windows len = (all_and (IsHeapLength a.windows) closed len p.each).last in
    let next : heap_start a (length closed + 1) ≡ start + a.windows.heap_max = start_next a (length closed) in
    let least : 32 ≤ head = header_least (length closed) in
    let most : head ≤ 2240 = header_most (length closed) in
    let before : start + len < top.addr = omega (arith, at, next, l.window) in
    let some : 0 < times_covered (start + len - 1) a = in_second a closed len (start + len - 1) p (omega (arith, most, l.some)) (omega (arith, l.some)) in
    let cases : (o : Option Tile) → tile_before top.addr a.tiles ≡ o → IsEndFence a closed len top = elim [
      | None ↦ λ e. absurd (omega (arith, some, bare_before top (start + len - 1) a.tiles row found (subst (λ o. IfSome o (λ t. end_of t ≤ start + len - 1)) (sym e) tt) (omega (arith, before))))
      | Some f ↦ λ e.
          let nb : AreNeighbours f top a.tiles = neighbours_before f top a.tiles row found e in
          let reaches : start + len ≤ end_of f = elim (cases_lt (start + len - 1) (end_of f)) [
            | inl lt ↦ omega (arith, lt)
            | inr le ↦ absurd (omega (arith, some, bare_before top (start + len - 1) a.tiles row found (subst (λ o. IfSome o (λ t. end_of t ≤ start + len - 1)) (sym e) le) (omega (arith, before))))
          ] in
          let ends : end_of f ≡ start + len = elim (misses_byte (start + len) f a.tiles nb.first (bare_end a closed len (start + len) p (omega arith) (omega (arith, before, at)))) [
            | inl lt ↦
                let bare : times_covered f.addr a ≡ 0 = bare_end a closed len f.addr p (omega (arith, lt)) (omega (arith, nb.meets.order, nb.tile.size.0, at)) in
                elim (misses_byte f.addr f a.tiles nb.first bare) [ inl before ↦ absurd (omega (arith, before)) | inr after ↦ absurd (omega (arith, after, nb.tile.size.0)) ]
            | inr le ↦ omega (arith, le, reaches)
          ] in
          let begins : start + head ≤ f.addr = elim (misses_byte (start + head - 1) f a.tiles nb.first (bare_head a closed len (start + head - 1) p (omega (arith, least)) (omega (arith, least)))) [
            | inl lt ↦ omega (arith, lt, least)
            | inr le ↦ absurd (omega (arith, le, ends, most, l.some))
          ] in
          let index : heap_index a f.addr ≡ length closed = index_in a (length closed) f.addr (omega (arith, begins)) (omega (arith, ends, nb.tile.size.0, l.window)) in
          record {
            fence = f;
            next = nb;
            begins = begins;
            ends = ends;
            gap = omega (arith, ends, before);
            size = ap (λ h. end_of f - heap_start a h) index ∙ omega (arith, ends);
            place = at;
          }
    ] in
    cases (tile_before top.addr a.tiles) refl

pub end_is_fence : (a : Plain) (closed : List ℕ) (len : ℕ) (top : Tile) → Row a.tiles → IsHeapPlaced a (closed ++ len ∷ []) → top_of a.tiles ≡ Some top → is_first_in_heap a top ≡ true → IsEndFence a closed len top
end_is_fence a closed len top row p e first =
    let t : HasLastTop a (with_last closed len) = last_top a (with_last closed len) p in
    let same : t.tile ≡ top = some_is t.tile top (sym t.top ∙ e) in
    let index : heap_index a top.addr ≡ length closed + 1 = ap (λ (u : Tile). heap_index a u.addr) (sym same) ∙ (t.index ∙ length_with closed len) in
    let at : top.addr ≡ heap_start a (length closed + 1) + 32 = eqb-true top.addr (heap_start a (heap_index a top.addr) + 32) first ∙ ap (λ h. heap_start a h + 32) index in
    end_tile a closed len top row p (top_found top a.tiles row e).found at

-- ---- the end that is found

-- where an end is found top is the first chunk of its heap
pub record IsEndFound (a : Plain) (e : HeapEnd) : Type 0 where
  pub tile : Tile
  pub top : top_of a.tiles ≡ Some tile
  pub first : is_first_in_heap a tile ≡ true
  pub end : end_before a tile ≡ Some e

pub end_found : (a : Plain) (e : HeapEnd) → end_before_heap a ≡ Some e → IsEndFound a e
end_found a e is =
    let cases : (o : Option Tile) → top_of a.tiles ≡ o → elim o [ None ↦ None | Some top ↦ cond (is_first_in_heap a top) (end_before a top) None ] ≡ Some e → IsEndFound a e = elim [
      | None ↦ λ here h. absurd cc
      | Some top ↦ λ here h.
          let tests : (b : Bool) → is_first_in_heap a top ≡ b → cond b (end_before a top) None ≡ Some e → IsEndFound a e = elim [
            | true ↦ λ first k. record { tile = top; top = here; first = first; end = k }
            | false ↦ λ first k. absurd cc
          ] in
          tests (is_first_in_heap a top) refl h
    ] in
    cases (top_of a.tiles) refl is

-- in heap 0 top isn't the first chunk behind a header of 32 bytes
pub none_first : (a : Plain) (t : Tile) → Row a.tiles → IsHeapPlaced a [] → top_of a.tiles ≡ Some t → is_first_in_heap a t ≡ false
none_first a t row p e =
    let l : HasLastTop a [] = last_top a [] p in
    let same : l.tile ≡ t = some_is l.tile t (sym l.top ∙ e) in
    let index : heap_index a t.addr ≡ 0 = ap (λ (u : Tile). heap_index a u.addr) (sym same) ∙ l.index in
    let begins : heap_start a 0 + 2240 ≤ t.addr = top_begins a [] t row p e (ap end_of (sym same) ∙ l.ends) in
    ne_eqb t.addr (heap_start a (heap_index a t.addr) + 32) (λ is. omega (arith, is, begins, ap (heap_start a) index))

pub no_end : (a : Plain) → Row a.tiles → IsHeapPlaced a [] → end_before_heap a ≡ None
no_end a row p =
    let t : HasLastTop a [] = last_top a [] p in
    ap (λ o. elim o as (λ o. Option HeapEnd) [ None ↦ None | Some top ↦ cond (is_first_in_heap a top) (end_before a top) None ]) t.top
    ∙ ap (λ b. cond b (end_before a t.tile) None) (none_first a t.tile row p t.top)

-- where top is the first chunk of a later heap, its fence ends the heap before
pub end_some : (a : Plain) (closed : List ℕ) (len : ℕ) (top : Tile) → top_of a.tiles ≡ Some top → is_first_in_heap a top ≡ true → (f : IsEndFence a closed len top) → end_before_heap a ≡ Some (record { fence = f.fence; before = free_part (tile_before f.fence.addr a.tiles); room = a.windows.heap_max - len })
end_some a closed len top e first f =
    ap (λ o. elim o as (λ o. Option HeapEnd) [ None ↦ None | Some top ↦ cond (is_first_in_heap a top) (end_before a top) None ]) e
    ∙ (ap (λ b. cond b (end_before a top) None) first
    ∙ (ap (λ o. elim o as (λ o. Option HeapEnd) [ None ↦ None | Some f ↦ Some (record { fence = f; before = free_part (tile_before f.addr a.tiles); room = a.windows.heap_max - heap_length a f }) ]) f.next.before
    ∙ ap (λ n. Some (record { fence = f.fence; before = free_part (tile_before f.fence.addr a.tiles); room = a.windows.heap_max - n })) f.size))

-- lengths of which there is a last one
pub record HasLast (ls : List ℕ) : Type 0 where
  pub front : List ℕ
  pub last : ℕ
  pub is : ls ≡ front ++ last ∷ []

has_last : (n : ℕ) (ls : List ℕ) → HasLast (n ∷ ls)
has_last n [] = record { front = []; last = n; is = refl }
has_last n (m ∷ ls) = let rest : HasLast (m ∷ ls) = has_last m ls in record { front = n ∷ rest.front; last = rest.last; is = ap (λ xs. n ∷ xs) rest.is }

-- an end is found only where there is a heap before
pub end_has_last : (a : Plain) (closed : List ℕ) (e : HeapEnd) → Row a.tiles → IsHeapPlaced a closed → end_before_heap a ≡ Some e → HasLast closed
end_has_last a [] e row p is = let none : end_before_heap a ≡ None = no_end a row p in absurd cc
end_has_last a (n ∷ ls) e row p is = has_last n ls

-- ---- the last heap is dropped

-- the free chunk before the fence, and the fence, have the end of the heap before
record IsTail (a : Plain) (closed : List ℕ) (len : ℕ) (e : HeapEnd) : Type 0 where
  begins : heap_start a (length closed) ≤ end_start e
  some : 0 < end_bytes e
  ends : end_start e + end_bytes e ≡ heap_start a (length closed) + len

tail_range : (a : Plain) (closed : List ℕ) (len : ℕ) (f : Tile) (o : Option Tile) (room : ℕ) → Row a.tiles → IsHeapPlaced a (with_last closed len) → tile_at f.addr a.tiles ≡ Some f → heap_start a (length closed) + header_bytes (length closed) ≤ f.addr → end_of f ≡ heap_start a (length closed) + len → o ≡ free_part (tile_before f.addr a.tiles) → IsTail a closed len (record { fence = f; before = o; room = room })
tail_range a closed len f None room row p found begins ends e =
    record { begins = omega (arith, begins); some = omega (arith, (tile_is f a.tiles row found).size.0); ends = omega (arith, ends) }
tail_range a closed len f (Some u) room row p found begins ends e =
    let part : IsFreePart u (tile_before f.addr a.tiles) = free_part_is u (tile_before f.addr a.tiles) e in
    let nb : AreNeighbours u f a.tiles = neighbours_before u f a.tiles row found part.found in
    let joins : end_of u ≡ f.addr = nb.meets.joins (ap is_edge (free_is u part.free)) in
    let start : ℕ = heap_start a (length closed) in
    let least : 32 ≤ header_bytes (length closed) = header_least (length closed) in
    record {
      begins = elim (misses_byte start u a.tiles nb.first (bare_head a closed len start p (omega arith) (omega (arith, least)))) [ inl lt ↦ omega (arith, lt) | inr after ↦ absurd (omega (arith, after, joins, begins, least)) ];
      some = omega (arith, nb.tile.size.0);
      ends = omega (arith, joins, ends);
    }

-- in the row: the end is top, and there are fewer tiles
record IsShorter (x : Tile) (old new : List Tile) : Type 0 where
  top : top_of new ≡ Some x
  fewer : length new < length old

shorter : (f top x : Tile) (ts : List Tile) → tile_at f.addr ts ≡ Some f → tile_at top.addr ts ≡ Some top → f.addr < top.addr → sum_by weight_top ts ≡ 1 → is_top top ≡ true → is_top x ≡ true → IsShorter x ts (swapped f.addr (x ∷ []) (swapped top.addr [] ts))
shorter f top x ts found at lt tops is_top top_x =
    let gone : List Tile = swapped top.addr [] ts in
    let bare : sum_by weight_top gone ≡ 0 = omega (arith, swapped_sum weight_top top.addr top [] ts at, tops, ap {B = ℕ} (λ (b : Bool). cond b 1 0) is_top) in
    let still : tile_at f.addr gone ≡ Some f = swapped_other top.addr f.addr [] ts (λ e. omega (arith, e, lt)) refl ∙ found in
    record {
      top = top_swapped f.addr f x gone still top_x bare;
      fewer = omega (arith, no_more_tiles f.addr x gone, fewer_tiles top.addr top ts at);
    }

shorter_row : (a : Plain) (top f : Tile) (o : Option Tile) (room : ℕ) → IsSound a → top_of a.tiles ≡ Some top → AreNeighbours f top a.tiles → o ≡ free_part (tile_before f.addr a.tiles) → let e : HeapEnd = record { fence = f; before = o; room = room } in IsShorter (tile_of Top (end_start e) (end_bytes e)) a.tiles (without_heap a e).tiles
shorter_row a top f None room s is next e =
    let start : top_start a ≡ top.addr = ap {B = ℕ} (λ o. elim o [ None ↦ 0 | Some t ↦ t.addr ]) is in
    let x : Tile = tile_of Top f.addr (f.size + 0) in
    let t : IsTopOf top a.tiles = top_found top a.tiles s.row is in
    subst (λ n. IsShorter x a.tiles (swapped f.addr (x ∷ []) (swapped n [] a.tiles))) (sym start)
    (shorter f top x a.tiles next.first next.second (omega (arith, next.meets.order, next.tile.size.0)) (top_to a top.addr top s next.second) t.top refl)
shorter_row a top f (Some u) room s is next e =
    let start : top_start a ≡ top.addr = ap {B = ℕ} (λ o. elim o [ None ↦ 0 | Some t ↦ t.addr ]) is in
    let x : Tile = tile_of Top u.addr (f.size + u.size) in
    let t : IsTopOf top a.tiles = top_found top a.tiles s.row is in
    let part : IsFreePart u (tile_before f.addr a.tiles) = free_part_is u (tile_before f.addr a.tiles) e in
    let nb : AreNeighbours u f a.tiles = neighbours_before u f a.tiles s.row next.first part.found in
    let ts : List Tile = swapped u.addr [] a.tiles in
    let one : u.addr < f.addr = omega (arith, nb.meets.order, nb.tile.size.0) in
    let two : f.addr < top.addr = omega (arith, next.meets.order, next.tile.size.0) in
    let tops : sum_by weight_top ts ≡ 1 = omega (arith, swapped_sum weight_top u.addr u [] a.tiles nb.first, top_to a top.addr top s next.second, ap weight_top (free_is u part.free)) in
    let found : tile_at f.addr ts ≡ Some f = swapped_other u.addr f.addr [] a.tiles (λ e. omega (arith, e, one)) refl ∙ next.first in
    let at : tile_at top.addr ts ≡ Some top = swapped_other u.addr top.addr [] a.tiles (λ e. omega (arith, e, one, two)) refl ∙ next.second in
    let less : length ts < length a.tiles = fewer_tiles u.addr u a.tiles nb.first in
    let made : IsShorter x ts (swapped f.addr (x ∷ []) (swapped top.addr [] ts)) = shorter f top x ts found at two tops t.top refl in
    subst (λ n. IsShorter x a.tiles (swapped f.addr (x ∷ []) (swapped n [] ts))) (sym start)
    (record { top = made.top; fewer = omega (arith, made.fewer, less) })

-- what a dropped heap leaves of the arena beside its tiles and bins
kept_beside : (a : Plain) (o : Option Tile) → let gone : Plain = with_tiles (without_free_part a o) (top_start a) [] in beside gone ≡ beside a
kept_beside a None = refl
kept_beside a (Some u) = refl

last_range : (a : Plain) (heap n at size : ℕ) → at ≡ heap_start a (heap + 1) + 32 → size + 32 ≡ last_length a → times_in_heap a (heap + 1) (last_length a) n ≡ covers n at size
last_range a heap n at size place bytes =
    ap (λ h. covers n (heap_start a (heap + 1) + h) (last_length a - h)) (header_next heap)
    ∙ (ap (λ s. covers n s (last_length a - 32)) (sym place) ∙ ap (covers n at) (less size (last_length a) bytes))
  where
    less : (m k : ℕ) → m + 32 ≡ k → k - 32 ≡ m
    less m k e = omega (arith, e)

pub record IsHeapDropped (a : Plain) (closed : List ℕ) (e : HeapEnd) : Type 0 where
  pub drop : IsHeapMove a (without_heap a e) closed None (λ v. v (top_start a) (top_size a)) nothing
  pub fewer : length (without_heap a e).tiles < length a.tiles

pub heap_dropped_placed : (a : Plain) (closed : List ℕ) (len : ℕ) (e : HeapEnd) → IsSound a → IsHeapPlaced a (closed ++ len ∷ []) → end_before_heap a ≡ Some e → IsHeapDropped a closed e
heap_dropped_placed a closed len e s p is =
    let d : IsEndFound a e = end_found a e is in
    let top : Tile = d.tile in
    let f : IsEndFence a closed len top = end_is_fence a closed len top s.row p d.top d.first in
    let b : IsEndBefore a top e = end_is a top e d.end in
    let same : f.fence ≡ e.fence = some_is f.fence e.fence (sym f.next.before ∙ b.fence) in
    let next : AreNeighbours e.fence top a.tiles = subst (λ x. AreNeighbours x top a.tiles) same f.next in
    let gap : end_of e.fence < top.addr = omega (arith, f.gap, ap end_of same) in
    let tail : IsTail a closed len e = tail_range a closed len e.fence e.before e.room s.row p next.first (omega (arith, f.begins, ap (λ (t : Tile). t.addr) same)) (omega (arith, f.ends, ap end_of same)) b.before in
    let row : IsShorter (tile_of Top (end_start e) (end_bytes e)) a.tiles (without_heap a e).tiles = shorter_row a top e.fence e.before e.room s d.top next b.before in
    let new : Plain = without_heap a e in
    let less : Measure → ℕ = λ v. v (top_start a) (top_size a) in
    let start : top_start a ≡ top.addr = ap {B = ℕ} (λ o. elim o [ None ↦ 0 | Some t ↦ t.addr ]) d.top in
    let size : top_size a ≡ top.size = ap {B = ℕ} (λ o. elim o [ None ↦ 0 | Some t ↦ t.size ]) d.top in
    let m : Moved a new none none less nothing = moved_as a new none none none none (λ v. v top.addr top.size) nothing less nothing (heap_dropped a top e s d.top d.end gap) (λ e. refl)
    (λ v adds. omega (arith, ap (λ n. v n (top_size a)) start, ap (v top.addr) size)) in
    let all : AreAllAnd (IsHeapLength a.windows) closed len = all_and (IsHeapLength a.windows) closed len p.each in
    let t : HasLastTop a (with_last closed len) = last_top a (with_last closed len) p in
    let count : length (with_last closed len) ≡ length closed + 1 = length_with closed len in
    let here : heap_start a (length (with_last closed len)) ≡ heap_start a (length closed + 1) = ap (heap_start a) count in
    let same_beside : beside (with_tiles (without_free_part a e.before) (top_start a) []) ≡ beside a = kept_beside a e.before in
    let bytes : top_size a + 32 ≡ last_length a = omega (arith, size, t.size, t.ends, t.end, f.place, here, ap {B = ℕ} (λ o. elim o [ None ↦ 0 | Some t ↦ end_of t ]) d.top) in
    record {
      drop = record {
        moved = m;
        placed = refilled a new closed len p.other p.number p.windows (record {
          number = ap (λ x. x.number) same_beside;
          windows = ap (λ x. x.windows) same_beside;
          tile = tile_of Top (end_start e) (end_bytes e);
          top = row.top;
          begins = tail.begins;
          some = tail.some;
          ends = tail.ends;
          filled = λ n. omega (arith, m.spans (covers n) (covers_adds n), filled_two a closed len n p, last_range a (length closed) n (top_start a) (top_size a) (start ∙ f.place) bytes);
          each = all.all;
          last = all.last;
          count = omega (arith, p.count, count);
          system = omega (arith, p.system, sum_by_push (λ (len : ℕ). len) closed len);
          tiled = omega (arith, bytes_moved a new none none less nothing m, p.tiled, p.system, sum_by_push (λ (len : ℕ). len) closed len, count, bytes);
        });
        gains = gains_of a new None less nothing m;
      };
      fewer = row.fewer;
    }
