-- Laws of the places of another arena's tiles, for this crate and those above it: moves that take and give no bytes keep
-- them, and so do opening an arena, extending its last heap, adding one, and giving back the end of the last one.
use Rattle.std.proofs.Common.{◌≡◌, ℕ, ◌+◌, ◌-◌, ◌%◌, ◌<◌, ◌≤◌, Bool, true, false, cond, List, [], ◌∷◌, ◌++◌, length, Option, Some, None, IfSome, refl, sym, ap, ◌∙◌, inl, inr, arith}
use Rattle.std.specs.Prelude.{nat_lt, sum_by}
use Rattle.std.specs.List.{AllByRecursion}
use Rattle.std.proofs.lemmas.Bool.{ne_eqb}
use Rattle.std.proofs.lemmas.List.Sums.{sum_by-cons, sum_by_push}
use Rattle.chunk_tags.specs.declared.tiles.Chunk.{Chunk}
use Rattle.chunk_tags.specs.Sizes.{IsChunkSize}
use Rattle.chunk_tags.specs.Tiles.{end_of, IsTile, Row, swapped, tile_behind, top_of}
use Rattle.chunk_tags.specs.declared.tiles.Tile.{Tile}
use Rattle.chunk_tags.specs.declared.tiles.TileKind.TheVariants.{Used, Top, Fence}
use Rattle.arena_rules.specs.PlainArena.{Plain, HeapWindows, empty_main, IsSound, once_of, beside}
use Rattle.arena_rules.specs.MainPlaces.{covers, times_covered}
use Rattle.arena_rules.specs.Moves.{tile_of, with_tiles, with_top_size, with_new_top, with_moved_top, closed_top, left_of_top, top_size, top_end, Gains}
use Rattle.arena_rules.specs.Heaps.{header_bytes, heap_start, last_heap, last_length, unopened, opened_arena, heap_extended, heap_added, heap_shortened}
use Rattle.arena_rules.specs.HeapPlaces.{AreHeapWindows, IsHeapLength, times_in_heap, IsHeapPlaced}
use Rattle.arena_rules.proofs.Beside.{beside_sized, beside_moved_top}
use Rattle.arena_rules.proofs.Rows.{if_found}
use Rattle.arena_rules.proofs.Changes.{AreNeighbours, neighbours_behind, tile_is}
use Rattle.arena_rules.proofs.Entries.{Apart, apart_behind}
use Rattle.arena_rules.proofs.Covered.{covers_adds, weight_byte}
use Rattle.arena_rules.proofs.HeapRanges.{start_next, start_page, header_least, header_next, heaps_push, heap_longer}
use Rattle.arena_rules.proofs.HeapTiles.{misses_byte, bare_header, all_below, all_le, HasLastTop, last_top, top_begins, IsRefilled, refilled}
use Rattle.arena_rules.proofs.Moved.{Moved, Measure, parts_of, none, nothing, sound_empty, moved_as, sound_as, moved_from, moved_to, bytes_moved, weight_top, top_to}
use Rattle.arena_rules.proofs.NewTops.{top_entered, top_resized, swapped_sum}
use Rattle.arena_rules.proofs.Tops.{IsTopOf, top_found}
use Rattle.arena_rules.proofs.TopMoves.{sized_moved, shrunk_fits, new_top_moved, top_moved, all_at}

-- a move of an arena's last heap, after which it is placed
pub record IsHeapMove (a new : Plain) (closed : List ℕ) (came : Option Chunk) (less more : Measure → ℕ) : Type 0 where
  pub moved : Moved a new none (λ e. once_of e came) less more
  pub placed : IsHeapPlaced new closed
  pub gains : Gains a came new

pub gains_of : (a new : Plain) (came : Option Chunk) (less more : Measure → ℕ) → Moved a new none (λ e. once_of e came) less more → Gains a came new
gains_of a new came less more m = record { sound = m.sound; used = λ e. omega (arith, m.used e) }

-- ---- moves that take and give no bytes

-- Top begins in the window of the last heap still, since its bytes are in a tile, and the first byte of that heap isn't.
pub heap_still : (a new : Plain) (left came : Chunk → ℕ) (closed : List ℕ) → Moved a new left came nothing nothing → beside new ≡ beside a → top_end new ≡ top_end a → IsHeapPlaced a closed → IsHeapPlaced new closed
heap_still a new left came closed m same end p =
    let t : HasLastTop a closed = last_top a closed p in
    let start : ℕ = heap_start a (length closed) in
    let system : new.system ≡ a.system = ap (λ x. x.system) same in
    let bytes : (n : ℕ) → times_covered n new ≡ times_covered n a = λ n. omega (arith, m.spans (covers n) (covers_adds n)) in
    let cases : (o : Option Tile) → top_of new.tiles ≡ o → IsRefilled a new closed (last_length a) = elim [
      | None ↦ λ e. absurd (omega (arith, end, t.end, t.ends, p.last.some, ap {B = ℕ} (λ o. elim o [ None ↦ 0 | Some t ↦ end_of t ]) e))
      | Some u ↦ λ e.
          let found : IsTopOf u new.tiles = top_found u new.tiles m.sound.row e in
          let ends : end_of u ≡ start + last_length a = omega (arith, end, t.end, t.ends, ap {B = ℕ} (λ o. elim o [ None ↦ 0 | Some t ↦ end_of t ]) e) in
          let bare : times_covered start new ≡ 0 = omega (arith, bytes start, bare_header a closed start p (omega arith) (omega (arith, header_least (length closed)))) in
          record {
            number = ap (λ x. x.number) same;
            windows = ap (λ x. x.windows) same;
            tile = u;
            top = e;
            begins = elim (misses_byte start u new.tiles found.found bare) [ inl lt ↦ omega (arith, lt) | inr after ↦ absurd (omega (arith, after, ends, p.last.some)) ];
            some = omega (arith, (tile_is u new.tiles m.sound.row found.found).size.0);
            ends = ends;
            filled = λ n. bytes n ∙ p.filled n;
            each = p.each;
            last = p.last;
            count = p.count;
            system = omega (arith, system, p.system);
            tiled = omega (arith, bytes_moved a new left came nothing nothing m, p.tiled, system);
          }
    ] in
    refilled a new closed (last_length a) p.other p.number p.windows (cases (top_of new.tiles) refl)

-- ---- an arena is opened

sound_unopened : (number : ℕ) (w : HeapWindows) → IsSound (unopened number w)
sound_unopened number w = sound_as empty_main (unopened number w) refl refl sound_empty

-- all behind the header of its heap 0 is top
opened_moved : (number : ℕ) (w : HeapWindows) (len : ℕ) → AreHeapWindows w → IsHeapLength w len → let a : Plain = unopened number w in Moved a (with_new_top a (heap_start a 0 + header_bytes 0) (len - header_bytes 0)) none none nothing (λ v. v (heap_start a 0 + header_bytes 0) (len - header_bytes 0))
opened_moved number w len windows l =
    let a : Plain = unopened number w in
    new_top_moved a (heap_start a 0 + header_bytes 0) (len - header_bytes 0) (sound_unopened number w) refl
    (omega (arith, l.some), omega (arith, l.some, l.whole)) (omega (arith, start_page a 0 windows))

pub opened_sound : (number : ℕ) (w : HeapWindows) (len : ℕ) → AreHeapWindows w → IsHeapLength w len → IsSound (opened_arena (unopened number w) len)
opened_sound number w len windows l =
    let a : Plain = unopened number w in
    sound_as (with_new_top a (heap_start a 0 + header_bytes 0) (len - header_bytes 0)) (opened_arena a len) refl refl (opened_moved number w len windows l).sound

pub opened_placed : (number : ℕ) (w : HeapWindows) (len : ℕ) → 0 < number → number < 64 → AreHeapWindows w → IsHeapLength w len → 0 < w.heaps → IsHeapPlaced (opened_arena (unopened number w) len) []
opened_placed number w len some below windows l heaps =
    let a : Plain = unopened number w in
    let new : Plain = opened_arena a len in
    let t : Tile = tile_of Top (heap_start a 0 + header_bytes 0) (len - header_bytes 0) in
    refilled a new [] len (ne_eqb number 0 (λ e. omega (arith, e, some))) below windows (record {
      number = refl;
      windows = refl;
      tile = t;
      top = refl;
      begins = omega arith;
      some = omega (arith, l.some);
      ends = omega (arith, l.some);
      filled = λ n. omega (arith, sum_by-cons (weight_byte n) t []);
      each = tt;
      last = l;
      count = heaps;
      system = omega arith;
      tiled = omega (arith, sum_by-cons (λ (t : Tile). t.size) t [], l.some);
    })

-- ---- its last heap is longer, or shorter

-- the tiles after top got another size
sized_tiles : (a : Plain) (t : Tile) (size : ℕ) → top_of a.tiles ≡ Some t → (with_top_size a size).tiles ≡ swapped t.addr (tile_of Top t.addr size ∷ []) a.tiles
sized_tiles a t size e = ap (λ o. (elim o as (λ o. Plain) [ None ↦ a | Some t ↦ with_tiles a t.addr (tile_of Top t.addr size ∷ []) ]).tiles) e

sized_top : (a : Plain) (t : Tile) (size : ℕ) → top_of a.tiles ≡ Some t → top_of (with_top_size a size).tiles ≡ Some (tile_of Top t.addr size)
sized_top a t size e = ap top_of (sized_tiles a t size e) ∙ top_resized t (tile_of Top t.addr size) a.tiles e refl

pub heap_extended_placed : (a : Plain) (closed : List ℕ) (growth : ℕ) → IsSound a → IsHeapPlaced a closed → 0 < growth → growth % 4096 ≡ 0 → last_length a + growth ≤ a.windows.heap_max → IsHeapMove a (heap_extended a growth) closed None nothing (λ v. v (top_end a) growth)
heap_extended_placed a closed growth s p some whole le =
    let t : HasLastTop a closed = last_top a closed p in
    let at : ℕ = t.tile.addr in
    let top : IsTopOf t.tile a.tiles = top_found t.tile a.tiles s.row t.top in
    let tile : IsTile t.tile = tile_is t.tile a.tiles s.row top.found in
    let b : Plain = record a { system = a.system + growth } in
    let new : Plain = heap_extended a growth in
    let now : ℕ = top_size a + growth in
    let begins : heap_start a (length closed) + header_bytes (length closed) ≤ at = top_begins a closed t.tile s.row p t.top t.ends in
    let chunk : IsChunkSize now = (omega (arith, t.size, tile.size.0), omega (arith, t.size, tile.size.1, whole)) in
    let below : AllByRecursion (λ u. end_of u ≤ end_of t.tile) a.tiles = all_le _ (end_of t.tile) a.tiles (omega (arith, t.ends)) (all_below a closed s.row p) in
    let room : IfSome (tile_behind at a.tiles) (λ u. at + now ≤ u.addr) = if_found (λ u. at + now ≤ u.addr) (tile_behind at a.tiles) (λ u behind.
    let next : AreNeighbours t.tile u a.tiles = neighbours_behind t.tile u a.tiles s.row top.found behind in
    absurd (omega (arith, all_at (λ u. end_of u ≤ end_of t.tile) u.addr u a.tiles below next.second, next.meets.order, next.tile_behind_it.size.0))) in
    let m : Moved a new none none nothing (λ v. v (top_end a) growth) =
    moved_as a new none none none none (λ v. v at t.tile.size) (λ v. v at now) nothing (λ v. v (top_end a) growth)
    (moved_from a b new none none (λ v. v at t.tile.size) (λ v. v at now) refl (sized_moved b t.tile now (sound_as a b refl refl s) t.top chunk room)) (λ e. refl)
    (λ v adds. omega (arith, parts_of v at t.tile.size growth now adds (omega (arith, t.size)), ap (λ n. v n growth) t.end)) in
    let same : beside new ≡ beside b = beside_sized b now in
    let end : heap_start a (length closed) + last_length a ≡ top_end a = omega (arith, t.end, t.ends) in
    record {
      moved = m;
      placed = refilled a new closed (last_length a + growth) p.other p.number p.windows (record {
        number = ap (λ x. x.number) same;
        windows = ap (λ x. x.windows) same;
        tile = tile_of Top at now;
        top = sized_top b t.tile now t.top;
        begins = omega (arith, begins);
        some = omega (arith, some);
        ends = omega (arith, t.ends, t.size);
        filled = λ n. omega (
          arith,
          m.spans (covers n) (covers_adds n),
          p.filled n,
          heap_longer a (length closed) (last_length a) growth n (omega (arith, p.last.some)),
          ap (λ at. covers n at growth) end,
        );
        each = p.each;
        last = record { whole = omega (arith, p.last.whole, whole); some = omega (arith, p.last.some); window = le };
        count = p.count;
        system = omega (arith, p.system, ap (λ x. x.system) same);
        tiled = omega (arith, bytes_moved a new none none nothing (λ v. v (top_end a) growth) m, p.tiled, ap (λ x. x.system) same);
      });
      gains = gains_of a new None nothing (λ v. v (top_end a) growth) m;
    }

-- Bytes at the end of the last heap, and of top, are given back.
pub heap_shortened_placed : (a : Plain) (closed : List ℕ) (bytes : ℕ) → IsSound a → IsHeapPlaced a closed → bytes + 32 ≤ top_size a → bytes % 4096 ≡ 0 → IsHeapMove a (heap_shortened a bytes) closed None (λ v. v (top_end a - bytes) bytes) nothing
heap_shortened_placed a closed bytes s p left whole =
    let t : HasLastTop a closed = last_top a closed p in
    let at : ℕ = t.tile.addr in
    let top : IsTopOf t.tile a.tiles = top_found t.tile a.tiles s.row t.top in
    let tile : IsTile t.tile = tile_is t.tile a.tiles s.row top.found in
    let now : ℕ = top_size a - bytes in
    let cut : Plain = with_top_size a now in
    let new : Plain = heap_shortened a bytes in
    let begins : heap_start a (length closed) + header_bytes (length closed) ≤ at = top_begins a closed t.tile s.row p t.top t.ends in
    let least : 32 ≤ header_bytes (length closed) = header_least (length closed) in
    let len : ℕ = last_length a - bytes in
    let length_now : IsHeapLength a.windows len = record {
      whole = omega (arith, p.last.whole, whole);
      some = omega (arith, p.last.whole, whole, begins, least, left, t.size, t.ends);
      window = omega (arith, p.last.window);
    } in
    let chunk : IsChunkSize now = (omega (arith, left), omega (arith, left, t.size, tile.size.1, whole)) in
    let m : Moved a new none none (λ v. v (top_end a - bytes) bytes) nothing =
    moved_to a cut new none none (λ v. v (top_end a - bytes) bytes) nothing refl refl
    (moved_as a cut none none none none (λ v. v at t.tile.size) (λ v. v at now) (λ v. v (top_end a - bytes) bytes) nothing
    (sized_moved a t.tile now s t.top chunk (shrunk_fits a t.tile now s t.top (omega (arith, t.size)))) (λ e. refl)
    (λ v adds. omega (arith, parts_of v at now bytes t.tile.size adds (omega (arith, left, t.size)), ap (λ n. v n bytes) (before at now bytes t.tile.size (top_end a) (omega (arith, left, t.size)) t.end)))) in
    let same : beside cut ≡ beside a = beside_sized a now in
    let longer : len + bytes ≡ last_length a = omega (arith, length_now.some) in
    let end : heap_start a (length closed) + len ≡ top_end a - bytes = omega (arith, t.end, t.ends, longer) in
    record {
      moved = m;
      placed = refilled a new closed len p.other p.number p.windows (record {
        number = ap (λ x. x.number) same;
        windows = ap (λ x. x.windows) same;
        tile = tile_of Top at now;
        top = sized_top a t.tile now t.top;
        begins = omega (arith, begins);
        some = omega (arith, left);
        ends = omega (arith, t.ends, t.size, left, longer);
        filled = λ n. omega (
          arith,
          m.spans (covers n) (covers_adds n),
          p.filled n,
          heap_longer a (length closed) len bytes n (omega (arith, length_now.some)),
          ap (λ k. times_in_heap a (length closed) k n) longer,
          ap (λ at. covers n at bytes) end,
        );
        each = p.each;
        last = length_now;
        count = p.count;
        system = omega (arith, p.system, longer);
        tiled = omega (arith, bytes_moved a new none none (λ v. v (top_end a - bytes) bytes) nothing m, p.tiled, p.system, longer);
      });
      gains = gains_of a new None (λ v. v (top_end a - bytes) bytes) nothing m;
    }
  where
    before : (at now bytes size end : ℕ) → now + bytes ≡ size → end ≡ at + size → at + now ≡ end - bytes
    before at now bytes size end e f = omega arith

-- ---- one heap more

-- no tile reaches into a window behind that of the last heap
pub behind_apart : (a : Plain) (closed : List ℕ) (at end : ℕ) → Row a.tiles → IsHeapPlaced a closed → heap_start a (length closed + 1) ≤ at → Apart at end a.tiles
behind_apart a closed at end row p ge =
    apart_behind at end a.tiles (all_le (heap_start a (length closed) + last_length a) at a.tiles (omega (arith, ge, p.last.window, start_next a (length closed))) (all_below a closed row p))

closed_tops : (t : Tile) → sum_by weight_top (closed_top t) ≡ 0
closed_tops t =
    let cases : (b : Bool) → sum_by weight_top (cond b (tile_of Fence t.addr t.size ∷ []) (tile_of Used t.addr (t.size - 32) ∷ tile_of Fence (t.addr + (t.size - 32)) 32 ∷ [])) ≡ 0 = elim [ true ↦ refl | false ↦ refl ] in
    cases (nat_lt t.size 64)

-- top after it moved
moved_top : (a : Plain) (t : Tile) (at size : ℕ) → IsSound a → top_of a.tiles ≡ Some t → top_of (with_moved_top a at size).tiles ≡ Some (tile_of Top at size)
moved_top a t at size s e =
    let f : IsTopOf t a.tiles = top_found t a.tiles s.row e in
    let bare : sum_by weight_top (swapped t.addr (closed_top t) a.tiles) ≡ 0 =
    omega (arith, swapped_sum weight_top t.addr t (closed_top t) a.tiles f.found, closed_tops t, top_to a t.addr t s f.found, ap {B = ℕ} (λ (b : Bool). cond b 1 0) f.top) in
    ap (λ o. top_of (elim o as (λ o. Plain) [ None ↦ with_new_top a at size | Some t ↦ with_new_top (with_tiles a t.addr (closed_top t)) at size ]).tiles) e
    ∙ top_entered (tile_of Top at size) (swapped t.addr (closed_top t) a.tiles) refl bare

pub heap_added_placed : (a : Plain) (closed : List ℕ) (len : ℕ) → IsSound a → IsHeapPlaced a closed → IsHeapLength a.windows len → last_heap a + 1 < a.windows.heaps → IsHeapMove a (heap_added a len) (closed ++ last_length a ∷ []) (left_of_top a) nothing (λ v. v (heap_start a (last_heap a + 1) + 32) (len - 32))
heap_added_placed a closed len s p l count =
    let t : HasLastTop a closed = last_top a closed p in
    let b : Plain = record a { system = a.system + len } in
    let at : ℕ = heap_start a (last_heap a + 1) + 32 in
    let size : ℕ = len - 32 in
    let new : Plain = heap_added a len in
    let more : List ℕ = closed ++ last_length a ∷ [] in
    let count_more : length more ≡ length closed + 1 = length_push closed (last_length a) in
    let next : heap_start a (length closed + 1) ≡ heap_start a (last_heap a + 1) = ap (λ h. heap_start a (h + 1)) (sym p.top) in
    let start : heap_start a (length more) ≡ heap_start a (last_heap a + 1) = ap (heap_start a) count_more ∙ next in
    let m : Moved a new none (λ e. once_of e (left_of_top a)) nothing (λ v. v at size) =
    moved_from a b new none (λ e. once_of e (left_of_top a)) nothing (λ v. v at size) refl
    (top_moved b at size (sound_as a b refl refl s) (omega (arith, l.some), omega (arith, l.some, l.whole)) (omega (arith, start_page a (last_heap a + 1) p.windows))
    (behind_apart a closed at (at + size) s.row p (omega (arith, next)))) in
    let same : beside new ≡ beside b = beside_moved_top b at size in
    record {
      moved = m;
      placed = refilled a new more len p.other p.number p.windows (record {
        number = ap (λ x. x.number) same;
        windows = ap (λ x. x.windows) same;
        tile = tile_of Top at size;
        top = moved_top b t.tile at size (sound_as a b refl refl s) t.top;
        begins = omega (arith, start);
        some = omega (arith, l.some);
        ends = omega (arith, start, l.some);
        filled = λ n. omega (
          arith,
          m.spans (covers n) (covers_adds n),
          p.filled n,
          heaps_push a closed (last_length a) n,
          last_range n (length more) (length closed) count_more start,
        );
        each = all_push closed (last_length a) p.each p.last;
        last = l;
        count = omega (arith, count, count_more, p.top);
        system = omega (arith, p.system, sum_by_push (λ (len : ℕ). len) closed (last_length a), ap (λ x. x.system) same);
        tiled = omega (arith, bytes_moved a new none (λ e. once_of e (left_of_top a)) nothing (λ v. v at size) m, p.tiled, count_more, l.some, ap (λ x. x.system) same);
      });
      gains = gains_of a new (left_of_top a) nothing (λ v. v at size) m;
    }
  where
    length_push : (ls : List ℕ) (n : ℕ) → length (ls ++ n ∷ []) ≡ length ls + 1
    length_push [] n = refl
    length_push (l ∷ ls) n = omega (arith, length_push ls n)

    all_push : (ls : List ℕ) (n : ℕ) → AllByRecursion (IsHeapLength a.windows) ls → IsHeapLength a.windows n → AllByRecursion (IsHeapLength a.windows) (ls ++ n ∷ [])
    all_push [] n all one = (one, tt)
    all_push (l ∷ ls) n all one = (all.0, all_push ls n all.1 one)

    last_range : (n heap before : ℕ) → heap ≡ before + 1 → heap_start a heap ≡ heap_start a (last_heap a + 1) → times_in_heap a heap len n ≡ covers n (heap_start a (last_heap a + 1) + 32) (len - 32)
    last_range n heap before is start =
        let head : header_bytes heap ≡ 32 = ap header_bytes is ∙ header_next before in
        ap (λ h. covers n (heap_start a heap + h) (len - h)) head ∙ ap (λ s. covers n (s + 32) (len - 32)) start
