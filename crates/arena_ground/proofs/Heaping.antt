-- A ground after a change of its heaps.
use Rattle.std.proofs.Common.{◌≡◌, ℕ, ◌+◌, ◌-◌, ◌*◌, ◌/◌, ◌%◌, ◌<◌, ◌≤◌, false, List, [], ◌∷◌, ◌++◌, length, Option, Some, None, Result, Ok, Err, refl, sym, ap, ◌∙◌, subst, arith, true≢false}
use Rattle.std.specs.Prelude.{OnOk, vec_capacity, if◌then◌else◌}
use Rattle.address_space.specs.Spaces.{main_start, piece_start}
use Rattle.chunk_tags.specs.declared.tiles.Chunk.{Chunk}
use Rattle.chunk_tags.specs.declared.tiles.Tile.{Tile}
use Rattle.ordinary_bins.specs.Lists.{Linked, empty_lists, times_listed as times_linked}
use Rattle.part_words.specs.Extents.{Extent, AreOpen, IsWider, IsWithinPart, extended}
use Rattle.part_words.proofs.Opening.{AreOpen-range, Covers-same, IsWithinPart-part}
use Rattle.chunk_image.specs.Rows.{TileRow, no_tiles}
use Rattle.arena_rules.specs.PlainArena.{Plain, HeapWindows, IsSound, empty_bins, is_main}
use Rattle.arena_rules.specs.Moves.{chunk_of, left_of_top, top_end, top_size, with_top_size, Gains}
use Rattle.arena_rules.specs.Heaps.{end_before_heap, heap_added, heap_extended, heap_shortened, heap_start, last_heap, last_length, opened_arena, unopened, without_free_part, without_heap}
use Rattle.arena_rules.specs.HeapPlaces.{AreHeapWindows, IsHeapLength, IsHeapPlaced}
use Rattle.arena_rules.specs.declared.heap_end.HeapEnd.{HeapEnd}
use Rattle.arena_rules.proofs.ChunkMoves.{tile_listed}
use Rattle.arena_rules.proofs.HeapEnds.{IsEndFound, IsHeapDropped, end_found, heap_dropped_placed}
use Rattle.arena_rules.proofs.HeapPlaces.{heap_added_placed, heap_extended_placed, heap_shortened_placed, opened_placed, opened_sound}
use Rattle.arena_rules.proofs.HeapRanges.{start_from}
use Rattle.arena_rules.proofs.HeapTiles.{HasLastTop, last_top}
use Rattle.heap_top.specs.declared.regions.Regions.{Regions}
use Rattle.heap_top.specs.Regions.{address_of, arena_of, HasTop}
use Rattle.heap_top.specs.HeapRanges.{IsHeapGrowth, IsNewHeap}
use Rattle.heap_top.proofs.DropLaws.{IsHeapEnd, heap_end}
use Rattle.heap_top.proofs.MainMoves.{but_tiles, moved_same, sized_same}
use Rattle.heap_top.proofs.TopLaws.{knows_top}
use Rattle.arena_ground.specs.Grounds.{arena_with, bins_at, part_bytes, words_start, IsGround, IsPlacedIn, lists_without}
use Rattle.arena_ground.proofs.Bridges.{bins_without}
use Rattle.arena_ground.proofs.Joining.{free_linked}
use Rattle.arena_ground.proofs.Keeping.{windows_of, IsDone, IsSoundGround, lists_of}
use Rattle.arena_ground.proofs.Opened.{empty_at}
use Rattle.arena_ground.proofs.Topping.{change_done, top_done, IsChangedTo, IsKeptIn, IsTopMoved}

-- ---- as the trait has it

pub gains_seen : (a b new now : Plain) (came o : Option Chunk) → Gains a came new → a ≡ b → o ≡ came → now ≡ new → Gains b o now
gains_seen a b new now came o gains is same done =
    subst (λ x. Gains x o now) is (subst (λ c. Gains a c now) (sym same) (subst (Gains a came) (sym done) gains))

pub fewer_seen : (a b new now : Plain) → length new.tiles < length a.tiles → a ≡ b → now ≡ new → length now.tiles < length b.tiles
fewer_seen a b new now fewer is done =
    subst (λ (x : Plain). length now.tiles < length x.tiles) is (subst (λ (x : Plain). length x.tiles < length a.tiles) (sym done) fewer)

-- ---- words of a heap

-- each heap is a part
pub heap_within : (r : Regions) (w : TileRow) (l : Linked) (last : Option ℕ) (heap offset len : ℕ) → IsGround r w l last → is_main (arena_with r w l last) ≡ false → offset % 4096 ≡ 0 → len % 4096 ≡ 0 → 0 < len → offset + len ≤ r.heap_max → IsWithinPart w.extent (heap_start (arena_with r w l last) heap + offset) len
heap_within r w l last heap offset len g other pages whole some fits =
    let a : Plain = arena_with r w l last in
    let e : Extent = w.extent in
    let base : e.base ≡ heap_start a 0 = g.base ∙ ap (λ b. if b then main_start else heap_start a 0) other in
    let width : e.width ≡ r.heap_max / 16 = g.width ∙ ap (λ b. (if b then piece_start - main_start else r.heap_max) / 16) other in
    let parts : r.heap_max ≡ 16 * e.width = omega (arith, width, (g.placed.other other).windows.whole) in
    let place : e.base + 16 * (heap * e.width) + offset ≡ heap_start a heap + offset = omega (arith, base, start_from a heap, ap (λ n. heap * n) parts) in
    subst (λ at. IsWithinPart e at len) place (IsWithinPart-part e heap offset len (omega (arith, pages)) (omega (arith, whole)) some (omega (arith, fits, parts)))

-- where an extension of the last heap begins
pub extension_at : (a : Plain) (closed : List ℕ) → IsHeapPlaced a closed → heap_start a (length closed) + last_length a ≡ top_end a
extension_at a closed p = let t : HasLastTop a closed = last_top a closed p in sym t.ends ∙ sym t.end

pub extension_room : {T E : Type 0} (res : Result T E) (e : Extent) (a new : Plain) (at growth : ℕ) → at ≡ top_end a → new ≡ a → 0 < growth → growth % 4096 ≡ 0 → last_length a + growth ≤ a.windows.heap_max → OnOk res (AreOpen e at growth) → OnOk res (IsHeapGrowth e new growth)
extension_room (Ok x) e a new at growth here same some pages window words =
    subst (λ b. IsHeapGrowth e b growth) (sym same) (record { words = subst (λ n. AreOpen e n growth) here words; some = some; pages = pages; window = window })
extension_room (Err x) e a new at growth here same some pages window words = words

-- ---- the last heap

-- what an extension of the last heap changes
heap_kept : (r : Regions) (w : TileRow) (m : Linked) (closed : List ℕ) (new : Plain) → IsSound new → IsHeapPlaced new closed → new.bins ≡ bins_at w.tiles m.lists → new.number ≡ r.number → new.windows ≡ windows_of r → IsKeptIn r w m closed new
heap_kept r w m closed new sound placed bins number windows = record {
  sound = sound;
  placed = record { main = λ is. absurd (true≢false (sym is ∙ placed.other)); other = λ not. placed };
  bins = bins;
  number = number;
  windows = windows;
}

pub extended_done : (r s : Regions) (w v : TileRow) (l : Linked) (last : Option ℕ) (growth : ℕ) → IsSoundGround r w l last → is_main (arena_with r w l last) ≡ false → IsHeapGrowth w.extent (arena_with r w l last) growth → IsTopMoved r s w v l last (heap_extended (arena_with r w l last) growth) → IsDone s v l last (heap_extended (arena_with r w l last) growth)
extended_done r s w v l last growth g other range m =
    let a : Plain = arena_with r w l last in
    let new : Plain = heap_extended a growth in
    let k = heap_extended_placed a r.closed.items growth g.sound (g.ground.placed.other other) range.some range.pages range.window in
    let same : but_tiles new ≡ but_tiles (record a { system = a.system + growth }) = sized_same (record a { system = a.system + growth }) (top_size a + growth) in
    top_done r s w v l last new g.ground m
    (heap_kept r w l r.closed.items new k.gains.sound k.placed (ap (λ (x : Plain). x.bins) same) (ap (λ (x : Plain). x.number) same) (ap (λ (x : Plain). x.windows) same))

pub extended_gains : (r : Regions) (w : TileRow) (l : Linked) (last : Option ℕ) (growth : ℕ) → IsSoundGround r w l last → is_main (arena_with r w l last) ≡ false → IsHeapGrowth w.extent (arena_with r w l last) growth → Gains (arena_with r w l last) None (heap_extended (arena_with r w l last) growth)
extended_gains r w l last growth g other range =
    (heap_extended_placed (arena_with r w l last) r.closed.items growth g.sound (g.ground.placed.other other) range.some range.pages range.window).gains

pub shortened_done : (r s : Regions) (w v : TileRow) (l : Linked) (last : Option ℕ) (bytes : ℕ) → IsSoundGround r w l last → is_main (arena_with r w l last) ≡ false → bytes + 32 ≤ top_size (arena_with r w l last) → bytes % 4096 ≡ 0 → IsTopMoved r s w v l last (heap_shortened (arena_with r w l last) bytes) → IsDone s v l last (heap_shortened (arena_with r w l last) bytes)
shortened_done r s w v l last bytes g other left pages m =
    let a : Plain = arena_with r w l last in
    let new : Plain = heap_shortened a bytes in
    let k = heap_shortened_placed a r.closed.items bytes g.sound (g.ground.placed.other other) left pages in
    let same : but_tiles (with_top_size a (top_size a - bytes)) ≡ but_tiles a = sized_same a (top_size a - bytes) in
    top_done r s w v l last new g.ground m
    (heap_kept r w l r.closed.items new k.gains.sound k.placed (ap (λ (x : Plain). x.bins) same) (ap (λ (x : Plain). x.number) same) (ap (λ (x : Plain). x.windows) same))

pub shortened_gains : (r : Regions) (w : TileRow) (l : Linked) (last : Option ℕ) (bytes : ℕ) → IsSoundGround r w l last → is_main (arena_with r w l last) ≡ false → bytes + 32 ≤ top_size (arena_with r w l last) → bytes % 4096 ≡ 0 → Gains (arena_with r w l last) None (heap_shortened (arena_with r w l last) bytes)
shortened_gains r w l last bytes g other left pages =
    (heap_shortened_placed (arena_with r w l last) r.closed.items bytes g.sound (g.ground.placed.other other) left pages).gains

-- ---- one heap more

pub added_done : (r s : Regions) (w v : TileRow) (l : Linked) (last : Option ℕ) (len : ℕ) → IsSoundGround r w l last → is_main (arena_with r w l last) ≡ false → IsNewHeap w.extent (arena_with r w l last) len → IsChangedTo r s w v l l last (heap_added (arena_with r w l last) len) → s.closed.items ≡ r.closed.items ++ last_length (arena_with r w l last) ∷ [] → IsDone s v l last (heap_added (arena_with r w l last) len)
added_done r s w v l last len g other range m closed =
    let a : Plain = arena_with r w l last in
    let b : Plain = record a { system = a.system + len } in
    let new : Plain = heap_added a len in
    let k = heap_added_placed a r.closed.items len g.sound (g.ground.placed.other other) range.length range.window in
    let same : but_tiles new ≡ but_tiles b = moved_same b (heap_start a (last_heap a + 1) + 32) (len - 32) in
    change_done r s w v l l last new g.ground m
    (heap_kept r w l s.closed.items new k.gains.sound (subst (IsHeapPlaced new) (sym closed) k.placed) (ap (λ (x : Plain). x.bins) same) (ap (λ (x : Plain). x.number) same) (ap (λ (x : Plain). x.windows) same))

pub added_gains : (r : Regions) (w : TileRow) (l : Linked) (last : Option ℕ) (len : ℕ) → IsSoundGround r w l last → is_main (arena_with r w l last) ≡ false → IsNewHeap w.extent (arena_with r w l last) len → Gains (arena_with r w l last) (left_of_top (arena_with r w l last)) (heap_added (arena_with r w l last) len)
added_gains r w l last len g other range =
    (heap_added_placed (arena_with r w l last) r.closed.items len g.sound (g.ground.placed.other other) range.length range.window).gains

-- ---- the last heap is dropped

-- the free chunk at the end of the heap before
pub record IsFreeEnd (r : Regions) (w : TileRow) (l : Linked) (last : Option ℕ) (u : Tile) : Type 0 where
  pub linked : 1 ≤ times_linked u.addr l.lists
  pub bins : bins_at w.tiles (lists_without (Some u.addr) l.lists) ≡ (without_free_part (arena_with r w l last) (Some u)).bins

pub free_end : (r : Regions) (w : TileRow) (l : Linked) (last : Option ℕ) (e : HeapEnd) (u : Tile) → IsSoundGround r w l last → end_before_heap (arena_with r w l last) ≡ Some e → e.before ≡ Some u → IsFreeEnd r w l last u
free_end r w l last e u g end before =
    let a : Plain = arena_with r w l last in
    let f : IsEndFound a e = end_found a e end in
    let h : IsHeapEnd a f.tile e = heap_end a f.tile e g.sound.row f.top end in
    let found = (h.before u before).first in
    record {
      linked = free_linked r w l last u g (h.free u before) found;
      bins = bins_without a l.lists (chunk_of u) (lists_of r w l last g) (omega (arith, tile_listed a u g.sound (h.free u before) found));
    }

end_bins : (r : Regions) (w : TileRow) (l : Linked) (last : Option ℕ) (e : HeapEnd) → IsSoundGround r w l last → end_before_heap (arena_with r w l last) ≡ Some e → bins_at w.tiles (lists_without (address_of e.before) l.lists) ≡ (without_free_part (arena_with r w l last) e.before).bins
end_bins r w l last e g end = go e.before refl
  where
    go : (o : Option Tile) → e.before ≡ o → bins_at w.tiles (lists_without (address_of o) l.lists) ≡ (without_free_part (arena_with r w l last) o).bins
    go None is = refl
    go (Some u) is = (free_end r w l last e u g end is).bins

-- all of an arena but its tiles and its bins, without the free chunk
but_rows : (a : Plain) (o : Option Tile) → let b : Plain = without_free_part a o in record b { tiles = []; bins = [] } ≡ record a { tiles = []; bins = [] }
but_rows a None = refl
but_rows a (Some u) = refl

other_bins : (a : Plain) (bins : List (List Chunk)) (e : HeapEnd) → record (without_heap (record a { bins = bins }) e) { bins = bins } ≡ record (without_heap a e) { bins = bins }
other_bins a bins e = go e.before refl
  where
    go : (o : Option Tile) → e.before ≡ o → record (without_heap (record a { bins = bins }) (record e { before = o })) { bins = bins } ≡ record (without_heap a (record e { before = o })) { bins = bins }
    go None is = refl
    go (Some u) is = refl

-- what dropping a heap did
pub record IsHeapGone (r s : Regions) (w v : TileRow) (l m : Linked) (last : Option ℕ) (e : HeapEnd) : Type 0 where
  pub arena : (bins : List (List Chunk)) → arena_of s v.tiles bins last ≡ record (without_heap (arena_of r w.tiles bins last) e) { bins = bins }
  pub top : HasTop s.top v.tiles
  pub closed : (len : ℕ) × (r.closed.items ≡ s.closed.items ++ len ∷ [])
  pub room : vec_capacity r.closed ≤ vec_capacity s.closed
  pub extent : v.extent ≡ w.extent
  pub lists : m.lists ≡ lists_without (address_of e.before) l.lists
  pub links : m.extent ≡ l.extent

pub dropped_moved : (r s : Regions) (w v : TileRow) (l m : Linked) (last : Option ℕ) (e : HeapEnd) → IsSoundGround r w l last → is_main (arena_with r w l last) ≡ false → end_before_heap (arena_with r w l last) ≡ Some e → IsHeapGone r s w v l m last e → IsHeapDropped (arena_with r w l last) s.closed.items e
dropped_moved r s w v l m last e g other end h =
    heap_dropped_placed (arena_with r w l last) s.closed.items h.closed.0 e g.sound (subst (IsHeapPlaced (arena_with r w l last)) h.closed.1 (g.ground.placed.other other)) end

pub dropped_bins : (r s : Regions) (w v : TileRow) (l m : Linked) (last : Option ℕ) (e : HeapEnd) → IsSoundGround r w l last → end_before_heap (arena_with r w l last) ≡ Some e → IsHeapGone r s w v l m last e → (without_heap (arena_with r w l last) e).bins ≡ bins_at w.tiles m.lists
dropped_bins r s w v l m last e g end h = sym (ap (bins_at w.tiles) h.lists ∙ end_bins r w l last e g end)

pub dropped_done : (r s : Regions) (w v : TileRow) (l m : Linked) (last : Option ℕ) (e : HeapEnd) → IsSoundGround r w l last → is_main (arena_with r w l last) ≡ false → end_before_heap (arena_with r w l last) ≡ Some e → IsHeapGone r s w v l m last e → IsDone s v m last (without_heap (arena_with r w l last) e)
dropped_done r s w v l m last e g other end h =
    let a : Plain = arena_with r w l last in
    let new : Plain = without_heap a e in
    let k = (dropped_moved r s w v l m last e g other end h).drop in
    let bins : new.bins ≡ bins_at w.tiles m.lists = dropped_bins r s w v l m last e g end h in
    let same = but_rows a e.before in
    let is : arena_of s v.tiles (bins_at w.tiles m.lists) last ≡ new =
    h.arena (bins_at w.tiles m.lists) ∙ (other_bins a (bins_at w.tiles m.lists) e ∙ ap (λ bins. record new { bins = bins }) (sym bins)) in
    change_done r s w v l m last new g.ground
    (record { arena = is; top = h.top; extent = h.extent; links = h.links; room = h.room })
    (heap_kept r w m s.closed.items new k.gains.sound k.placed bins (ap (λ (x : Plain). x.number) same) (ap (λ (x : Plain). x.windows) same))

-- ---- another arena is opened

-- the words of heap 0
pub first_words : (start : ℕ) (w : HeapWindows) (len : ℕ) → AreHeapWindows w → IsHeapLength w len → AreOpen (extended (no_tiles start w.heap_max).extent start len) start len
first_words start w len windows is =
    let e : Extent = (no_tiles start w.heap_max).extent in
    let place : start + 16 * (0 * (w.heap_max / 16)) + 0 ≡ start = omega arith in
    let within : IsWithinPart e start len = subst (λ at. IsWithinPart e at len) place (IsWithinPart-part e 0 0 len refl (omega (arith, is.whole)) (omega (arith, is.some)) (omega (arith, is.window, windows.whole))) in
    AreOpen-range e start len within

-- what was opened
pub record IsOpened (s : Regions) (v : TileRow) (l : Linked) (n : ℕ) (w : HeapWindows) (len start : ℕ) : Type 0 where
  pub number : 0 < n
  pub below : n < 64
  pub windows : AreHeapWindows w
  pub length : IsHeapLength w len
  pub count : 0 < w.heaps
  pub arena : arena_of s v.tiles empty_bins None ≡ opened_arena (unopened n w) len
  pub top : HasTop s.top v.tiles
  pub closed : s.closed.items ≡ []
  pub room : s.heaps ≤ vec_capacity s.closed
  pub lists : l.lists ≡ empty_lists
  pub starts : start ≡ heap_start (unopened n w) 0
  pub tiles : v.extent ≡ extended (no_tiles start w.heap_max).extent start len
  pub links : l.extent ≡ extended (no_tiles start w.heap_max).extent start len

pub opened_done : (s : Regions) (v : TileRow) (l : Linked) (n : ℕ) (w : HeapWindows) (len start : ℕ) → IsOpened s v l n w len start → IsDone s v l None (opened_arena (unopened n w) len)
opened_done s v l n w len start o =
    let new : Plain = opened_arena (unopened n w) len in
    let bins : bins_at v.tiles l.lists ≡ empty_bins = ap (bins_at v.tiles) o.lists ∙ empty_at v.tiles in
    let is : arena_with s v l None ≡ new = ap (λ bins. arena_of s v.tiles bins None) bins ∙ o.arena in
    let sound : IsSound new = opened_sound n w len o.windows o.length in
    let placed : IsHeapPlaced new [] = opened_placed n w len o.number o.below o.windows o.length o.count in
    let in_new : IsPlacedIn new [] = record { main = λ main. absurd (true≢false (sym main ∙ placed.other)); other = λ other. placed } in
    let begin : words_start new ≡ heap_start new 0 = ap (λ b. if b then main_start else heap_start new 0) placed.other in
    let width : part_bytes new / 16 ≡ w.heap_max / 16 = ap (λ b. (if b then piece_start - main_start else w.heap_max) / 16) placed.other in
    record {
      is = is;
      kept = record {
        known = knows_top (arena_with s v l None) s.top (subst IsSound (sym is) sound) o.top;
        placed = subst (λ x. IsPlacedIn x s.closed.items) (sym is) (subst (IsPlacedIn new) (sym o.closed) in_new);
        room = o.room;
        covers = subst (λ e. IsWider e l.extent) (sym o.tiles) (subst (IsWider (extended (no_tiles start w.heap_max).extent start len)) (sym o.links) (Covers-same (extended (no_tiles start w.heap_max).extent start len)));
        base = ap (λ (e : Extent). e.base) o.tiles ∙ (o.starts ∙ (sym begin ∙ ap words_start (sym is)));
        width = ap (λ (e : Extent). e.width) o.tiles ∙ (sym width ∙ ap (λ x. part_bytes x / 16) (sym is));
      };
    }

pub opened_is_sound : (s : Regions) (v : TileRow) (l : Linked) (n : ℕ) (w : HeapWindows) (len start : ℕ) → IsOpened s v l n w len start → IsSound (arena_with s v l None)
opened_is_sound s v l n w len start o =
    subst IsSound (sym (opened_done s v l n w len start o).is) (opened_sound n w len o.windows o.length)
