-- Laws of the tiles of another arena, for this crate and those above it: which bytes have none, where top is, and how far
-- they reach.
use Rattle.std.proofs.Common.{◌≡◌, ℕ, ◌+◌, ◌-◌, ◌*◌, ◌<◌, ◌≤◌, false, List, [], ◌∷◌, length, Option, Some, None, refl, sym, ap, ◌∙◌, subst, inl, inr, arith}
use Rattle.std.specs.Prelude.{sum_by, ◌⊎◌}
use Rattle.std.specs.List.{AllByRecursion}
use Rattle.std.proofs.lemmas.Bool.{cases_lt}
use Rattle.std.proofs.lemmas.List.Sums.{sum_by-cons}
use Rattle.chunk_tags.specs.Tiles.{end_of, Row, tile_at, top_of}
use Rattle.chunk_tags.specs.declared.tiles.Tile.{Tile}
use Rattle.address_space.specs.Spaces.{heaps_start}
use Rattle.arena_rules.specs.PlainArena.{Plain, is_main, tiled_bytes}
use Rattle.arena_rules.specs.MainPlaces.{times_covered}
use Rattle.arena_rules.specs.Moves.{top_size, top_end}
use Rattle.arena_rules.specs.Heaps.{header_bytes, heap_start, heap_index, heap_length, last_heap, last_length}
use Rattle.arena_rules.specs.HeapPlaces.{AreHeapWindows, IsHeapLength, times_in_heap, times_in_heaps, IsHeapPlaced}
use Rattle.arena_rules.proofs.Covered.{covers_one, covered_by, weight_byte}
use Rattle.arena_rules.proofs.HeapRanges.{start_below, start_next, index_in, windows_end, header_least, header_most, not_in_heap, before_heaps, behind_closed}
use Rattle.arena_rules.proofs.Tops.{top_found}

-- ---- bytes that no tile has

-- a tile begins behind such a byte, or ends before it
pub misses_byte : (n : ℕ) (t : Tile) (ts : List Tile) → tile_at t.addr ts ≡ Some t → sum_by (weight_byte n) ts ≡ 0 → (n < t.addr) ⊎ (end_of t ≤ n)
misses_byte n t ts found none =
    elim (cases_lt n t.addr) [
      | inl before ↦ inl before
      | inr from ↦ elim (cases_lt n (end_of t)) [
        | inl within ↦ absurd (omega (arith, none, covered_by n t.addr t ts found, covers_one n t.addr t.size from within))
        | inr after ↦ inr after
      ]
    ]

-- behind the last heap, and before the first
pub bare_behind : (a : Plain) (closed : List ℕ) (n : ℕ) → IsHeapPlaced a closed → heap_start a (length closed) + last_length a ≤ n → times_covered n a ≡ 0
bare_behind a closed n p ge =
    omega (
      arith,
      p.filled n,
      behind_closed a closed n p.each (omega (arith, ge)),
      not_in_heap a (length closed) (last_length a) n p.last (inr ge),
    )

pub bare_below : (a : Plain) (closed : List ℕ) (n : ℕ) → IsHeapPlaced a closed → n < heap_start a 0 → times_covered n a ≡ 0
bare_below a closed n p lt =
    omega (
      arith,
      p.filled n,
      before_heaps a 0 closed n p.each lt,
      not_in_heap a (length closed) (last_length a) n p.last (inl (omega (arith, lt, start_below a 0 (length closed) (omega arith)))),
    )

-- the header of the last heap
pub bare_header : (a : Plain) (closed : List ℕ) (n : ℕ) → IsHeapPlaced a closed → heap_start a (length closed) ≤ n → n < heap_start a (length closed) + header_bytes (length closed) → times_covered n a ≡ 0
bare_header a closed n p ge lt =
    omega (
      arith,
      p.filled n,
      behind_closed a closed n p.each ge,
      not_in_heap a (length closed) (last_length a) n p.last (inl lt),
    )

-- ---- all tiles

-- they end where the bytes of tiles do
all_end : (at : ℕ) (ts : List Tile) → Row ts → ((n : ℕ) → at ≤ n → sum_by (weight_byte n) ts ≡ 0) → AllByRecursion (λ t. end_of t ≤ at) ts
all_end at [] row none = tt
all_end at (t ∷ ts) row none = (
  elim (cases_lt at (end_of t)) [
    | inl lt ↦
        let n : ℕ = end_of t - 1 in
        let some : 0 < t.size = omega (arith, row.0.size.0) in
        absurd (omega (arith, none n (omega (arith, lt)), sum_by-cons (weight_byte n) t ts, covers_one n t.addr t.size (omega (arith, some)) (omega (arith, some))))
    | inr le ↦ le
  ],
  all_end at ts row.2 (λ n ge. omega (arith, none n ge, sum_by-cons (weight_byte n) t ts)),
)

-- and begin where they do
all_begin : (at : ℕ) (ts : List Tile) → Row ts → ((n : ℕ) → n < at → sum_by (weight_byte n) ts ≡ 0) → AllByRecursion (λ t. at ≤ t.addr) ts
all_begin at [] row none = tt
all_begin at (t ∷ ts) row none = (
  elim (cases_lt t.addr at) [
    | inl lt ↦
        let n : ℕ = t.addr in
        absurd (omega (arith, none n lt, sum_by-cons (weight_byte n) t ts, covers_one n t.addr t.size (omega arith) (omega (arith, row.0.size.0))))
    | inr le ↦ le
  ],
  all_begin at ts row.2 (λ n lt. omega (arith, none n lt, sum_by-cons (weight_byte n) t ts)),
)

-- no tile ends behind the last heap, nor begins before the first
pub all_below : (a : Plain) (closed : List ℕ) → Row a.tiles → IsHeapPlaced a closed → AllByRecursion (λ t. end_of t ≤ heap_start a (length closed) + last_length a) a.tiles
all_below a closed row p = all_end (heap_start a (length closed) + last_length a) a.tiles row (λ n ge. bare_behind a closed n p ge)

pub all_from : (a : Plain) (closed : List ℕ) → Row a.tiles → IsHeapPlaced a closed → AllByRecursion (λ t. heap_start a 0 ≤ t.addr) a.tiles
all_from a closed row p = all_begin (heap_start a 0) a.tiles row (λ n lt. bare_below a closed n p lt)

-- the last heap ends in its window, and this before the end of all arenas' windows
pub last_end : (a : Plain) (closed : List ℕ) → IsHeapPlaced a closed → heap_start a (length closed) + last_length a ≤ heaps_start + 64 * 64 * 67108864
last_end a closed p = omega (arith, p.last.window, windows_end a (length closed) p.windows p.number p.count)

pub all_le : (at end : ℕ) (ts : List Tile) → at ≤ end → AllByRecursion (λ t. end_of t ≤ at) ts → AllByRecursion (λ t. end_of t ≤ end) ts
all_le at end [] le all = tt
all_le at end (t ∷ ts) le all = (omega (arith, all.0, le), all_le at end ts le all.1)

pub all_bounded : (a : Plain) (closed : List ℕ) → Row a.tiles → IsHeapPlaced a closed → AllByRecursion (λ t. end_of t ≤ heaps_start + 64 * 64 * 67108864) a.tiles
all_bounded a closed row p = all_le _ _ a.tiles (last_end a closed p) (all_below a closed row p)

-- ---- the bytes from the system

lengths_bounded : (a : Plain) (lens : List ℕ) → AreHeapWindows a.windows → AllByRecursion (IsHeapLength a.windows) lens → sum_by (λ len. len) lens ≤ length lens * 67108864
lengths_bounded a [] w all = omega arith
lengths_bounded a (len ∷ lens) w all = omega (arith, sum_by-cons (λ (len : ℕ). len) len lens, all.0.window, w.most, lengths_bounded a lens w all.1)

pub system_bounded : (a : Plain) (closed : List ℕ) → IsHeapPlaced a closed → a.system ≤ 64 * 67108864
system_bounded a closed p = omega (arith, p.system, lengths_bounded a closed p.windows p.each, p.last.window, p.windows.most, p.count, p.windows.heaps)

pub bytes_bounded : (a : Plain) (closed : List ℕ) → IsHeapPlaced a closed → tiled_bytes a ≤ 64 * 67108864
bytes_bounded a closed p = omega (arith, p.tiled, system_bounded a closed p)

-- ---- top

-- top ends where the last heap does
pub record HasLastTop (a : Plain) (closed : List ℕ) : Type 0 where
  pub tile : Tile
  pub top : top_of a.tiles ≡ Some tile
  pub index : heap_index a tile.addr ≡ length closed
  pub ends : end_of tile ≡ heap_start a (length closed) + last_length a
  pub end : top_end a ≡ end_of tile
  pub size : top_size a ≡ tile.size

pub last_top : (a : Plain) (closed : List ℕ) → IsHeapPlaced a closed → HasLastTop a closed
last_top a closed p =
    let cases : (o : Option Tile) → top_of a.tiles ≡ o → HasLastTop a closed = elim [
      | None ↦ λ e. absurd (omega (arith, p.last.some, ap {B = ℕ} (λ o. elim o [ None ↦ 0 | Some top ↦ heap_length a top ]) e))
      | Some t ↦ λ e.
          let index : heap_index a t.addr ≡ length closed = sym (ap {B = ℕ} (λ o. elim o [ None ↦ 0 | Some top ↦ heap_index a top.addr ]) e) ∙ p.top in
          let len : last_length a ≡ end_of t - heap_start a (length closed) =
          ap {B = ℕ} (λ o. elim o [ None ↦ 0 | Some top ↦ heap_length a top ]) e ∙ ap (λ h. end_of t - heap_start a h) index in
          record {
            tile = t;
            top = e;
            index = index;
            ends = omega (arith, len, p.last.some);
            end = ap {B = ℕ} (λ o. elim o [ None ↦ 0 | Some t ↦ end_of t ]) e;
            size = ap {B = ℕ} (λ o. elim o [ None ↦ 0 | Some t ↦ t.size ]) e;
          }
    ] in
    cases (top_of a.tiles) refl

-- so no tile is behind top, nor in the window of one heap more
pub bare_extension : (a : Plain) (closed : List ℕ) (n : ℕ) → IsHeapPlaced a closed → top_end a ≤ n → times_covered n a ≡ 0
bare_extension a closed n p ge = let t : HasLastTop a closed = last_top a closed p in bare_behind a closed n p (omega (arith, ge, t.end, t.ends))

pub bare_next : (a : Plain) (closed : List ℕ) (n : ℕ) → IsHeapPlaced a closed → heap_start a (last_heap a + 1) ≤ n → times_covered n a ≡ 0
bare_next a closed n p ge =
    bare_behind a closed n p (omega (arith, ge, p.last.window, start_next a (length closed), ap (λ h. heap_start a (h + 1)) p.top))

-- and begins behind its header
pub top_begins : (a : Plain) (closed : List ℕ) (t : Tile) → Row a.tiles → IsHeapPlaced a closed → top_of a.tiles ≡ Some t → end_of t ≡ heap_start a (length closed) + last_length a → heap_start a (length closed) + header_bytes (length closed) ≤ t.addr
top_begins a closed t row p e ends =
    let start : ℕ = heap_start a (length closed) in
    let head : ℕ = header_bytes (length closed) in
    let n : ℕ = start + head - 1 in
    let least : 32 ≤ head = header_least (length closed) in
    let most : head ≤ 2240 = header_most (length closed) in
    let bare : times_covered n a ≡ 0 = bare_header a closed n p (omega (arith, least)) (omega (arith, least)) in
    elim (misses_byte n t a.tiles (top_found t a.tiles row e).found bare) [
      | inl before ↦ omega (arith, before, least)
      | inr after ↦ absurd (omega (arith, after, ends, most, p.last.some))
    ]

pub record IsLastBounded (a : Plain) : Type 0 where
  pub size : top_size a ≤ last_length a
  pub window : last_length a ≤ a.windows.heap_max
  pub heap : last_heap a < a.windows.heaps

-- what is asked of the last heap
pub last_bounded : (a : Plain) (closed : List ℕ) → Row a.tiles → IsHeapPlaced a closed → IsLastBounded a
last_bounded a closed row p =
    let t : HasLastTop a closed = last_top a closed p in
    record {
      size = omega (arith, t.size, t.ends, top_begins a closed t.tile row p t.top t.ends);
      window = p.last.window;
      heap = omega (arith, p.top, p.count);
    }

-- ---- an arena is placed

-- the heap of top, by where it begins and ends
pub record IsLastHeap (a : Plain) (heap len : ℕ) : Type 0 where
  pub index : last_heap a ≡ heap
  pub size : last_length a ≡ len

pub last_heap_is : (a : Plain) (heap len : ℕ) (t : Tile) → top_of a.tiles ≡ Some t → heap_start a heap ≤ t.addr → 0 < t.size → end_of t ≡ heap_start a heap + len → len ≤ a.windows.heap_max → IsLastHeap a heap len
last_heap_is a heap len t e begins some ends le =
    let index : heap_index a t.addr ≡ heap = index_in a heap t.addr begins (omega (arith, some, ends, le)) in
    record {
      index = ap {B = ℕ} (λ o. elim o [ None ↦ 0 | Some top ↦ heap_index a top.addr ]) e ∙ index;
      size = ap {B = ℕ} (λ o. elim o [ None ↦ 0 | Some top ↦ heap_length a top ]) e ∙ (ap (λ h. end_of t - heap_start a h) index ∙ omega (arith, ends));
    }

-- what a change of a placed arena is to show: the windows stay, and it fills heaps of these lengths
pub record IsRefilled (a new : Plain) (closed : List ℕ) (len : ℕ) : Type 0 where
  pub number : new.number ≡ a.number
  pub windows : new.windows ≡ a.windows
  pub tile : Tile
  pub top : top_of new.tiles ≡ Some tile
  pub begins : heap_start a (length closed) ≤ tile.addr
  pub some : 0 < tile.size
  pub ends : end_of tile ≡ heap_start a (length closed) + len
  pub filled : (n : ℕ) → times_covered n new ≡ times_in_heaps a 0 closed n + times_in_heap a (length closed) len n
  pub each : AllByRecursion (IsHeapLength a.windows) closed
  pub last : IsHeapLength a.windows len
  pub count : length closed < a.windows.heaps
  pub system : new.system ≡ sum_by (λ len. len) closed + len
  pub tiled : tiled_bytes new + (2240 + 32 * length closed) ≡ new.system

refilled_same : (a new : Plain) (closed : List ℕ) (len : ℕ) → is_main a ≡ false → a.number < 64 → AreHeapWindows a.windows → IsRefilled a new closed len → IsHeapPlaced (record new { number = a.number; windows = a.windows }) closed
refilled_same a new closed len other number windows r =
    let b : Plain = record new { number = a.number; windows = a.windows } in
    let l : IsLastHeap b (length closed) len = last_heap_is b (length closed) len r.tile r.top r.begins r.some r.ends r.last.window in
    record {
      other = other;
      number = number;
      windows = windows;
      filled = λ n. r.filled n ∙ ap (λ k. times_in_heaps a 0 closed n + times_in_heap a (length closed) k n) (sym l.size);
      each = r.each;
      last = subst (IsHeapLength a.windows) (sym l.size) r.last;
      top = l.index;
      count = r.count;
      system = omega (arith, r.system, l.size);
      tiled = r.tiled;
    }

pub refilled : (a new : Plain) (closed : List ℕ) (len : ℕ) → is_main a ≡ false → a.number < 64 → AreHeapWindows a.windows → IsRefilled a new closed len → IsHeapPlaced new closed
refilled a new closed len other number windows r =
    subst (λ w. IsHeapPlaced (record new { windows = w }) closed) (sym r.windows)
    (subst (λ n. IsHeapPlaced (record new { number = n; windows = a.windows }) closed) (sym r.number) (refilled_same a new closed len other number windows r))
