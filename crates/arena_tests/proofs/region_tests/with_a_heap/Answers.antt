use Rattle.std.proofs.Common.{◌≡◌, ◌+◌, [], ◌∷◌, None, IsTrue, refl, sym, ap, ◌∙◌, subst, arith}
use Rattle.std.specs.Prelude.{vec_capacity}
use Rattle.part_words.specs.Extents.{extended}
use Rattle.address_space.specs.Spaces.{heaps_start}
use Rattle.chunk_image.specs.Rows.{TileRow}
use Rattle.arena_rules.specs.PlainArena.{Plain, IsSound, empty_bins}
use Rattle.arena_rules.specs.Growth.{has_top_for}
use Rattle.arena_rules.specs.Heaps.{opened_arena, unopened}
use Rattle.arena_rules.specs.Moves.{cut_from_top}
use Rattle.heap_top.specs.Regions.{arena_of}
use Rattle.arena_tests.specs.HeapScenes.{two_windows, heap_words}
use Rattle.arena_tests.proofs.HeapScenes.{sound_heap, sound_opened}
use Rattle.heap_top.proofs.TopLaws.{knows_top}
use Rattle.arena_tests.proofs.region_tests.with_a_heap.Goals as goal

-- no tiles, and the words of both windows
abbrev WordsAre : TileRow → Type 0
WordsAre w = w ≡ record { tiles = []; extent = heap_words }

pub cut_top-requires-clause-known : goal.cut_top-requires-clause-known
cut_top-requires-clause-known c =
    let one = c.in_ok-open.ensures.ok ∙ ap (λ (w : TileRow). record w { extent = extended w.extent heaps_start 65536 }) c.new-tiles.ensures in
    let two : WordsAre c.open-2.new.self = c.in_ok-open-2.ensures.ok ∙ ap (λ (w : TileRow). record w { extent = extended w.extent (heaps_start + 65536) 65536 }) one in
    let e = c.open_heap.ensures in
    let is : arena_of c.open_heap.new.self c.open_heap.new.tiles.tiles empty_bins None ≡ opened_arena (unopened 1 two_windows) 8192 =
    e.arena empty_bins None
    ∙ (ap (λ (w : TileRow). opened_arena (arena_of c.in_ok-heaps.heaps w.tiles empty_bins None) 8192) two ∙ ap (λ (x : Plain). opened_arena x 8192) c.in_ok-heaps.ensures.arena) in
    knows_top (arena_of c.open_heap.new.self c.open_heap.new.tiles.tiles empty_bins None) c.open_heap.new.self.top (subst IsSound (sym is) sound_opened) e.top

pub cut_top-requires-clause-room : goal.cut_top-requires-clause-room
cut_top-requires-clause-room c =
    let one = c.in_ok-open.ensures.ok ∙ ap (λ (w : TileRow). record w { extent = extended w.extent heaps_start 65536 }) c.new-tiles.ensures in
    let two : WordsAre c.open-2.new.self = c.in_ok-open-2.ensures.ok ∙ ap (λ (w : TileRow). record w { extent = extended w.extent (heaps_start + 65536) 65536 }) one in
    let is : arena_of c.open_heap.new.self c.open_heap.new.tiles.tiles empty_bins None ≡ opened_arena (unopened 1 two_windows) 8192 =
    c.open_heap.ensures.arena empty_bins None
    ∙ (ap (λ (w : TileRow). opened_arena (arena_of c.in_ok-heaps.heaps w.tiles empty_bins None) 8192) two ∙ ap (λ (x : Plain). opened_arena x 8192) c.in_ok-heaps.ensures.arena) in
    subst (λ (x : Plain). IsTrue (has_top_for x 1024)) (sym is) refl

pub returns : goal.returns
returns c =
    let one = c.in_ok-open.ensures.ok ∙ ap (λ (w : TileRow). record w { extent = extended w.extent heaps_start 65536 }) c.new-tiles.ensures in
    let two : WordsAre c.open-2.new.self = c.in_ok-open-2.ensures.ok ∙ ap (λ (w : TileRow). record w { extent = extended w.extent (heaps_start + 65536) 65536 }) one in
    let opened = c.open_heap.ensures in
    let cut = c.cut_top.ensures in
    let made = c.in_ok-heaps.ensures in
    let is = cut.arena empty_bins None
    ∙ ap (λ (x : Plain). cut_from_top x 1024) (opened.arena empty_bins None
    ∙ (ap (λ (w : TileRow). opened_arena (arena_of c.in_ok-heaps.heaps w.tiles empty_bins None) 8192) two ∙ ap (λ (x : Plain). opened_arena x 8192) made.arena)) in
    record {
      arena = is;
      closed = ap (λ v. v.items) cut.closed ∙ (ap (λ v. v.items) opened.closed ∙ made.closed);
      known = knows_top (arena_of c.cut_top.new.self c.cut_top.new.tiles.tiles empty_bins None) c.cut_top.new.self.top (subst IsSound (sym is) sound_heap) cut.top;
      room = omega (
        arith,
        made.room,
        ap (λ (x : Plain). x.windows.heaps) made.arena,
        ap (λ (x : Plain). x.windows.heaps) is,
        ap vec_capacity cut.closed,
        ap vec_capacity opened.closed,
      );
      words = cut.extent ∙ (opened.extent ∙ ap (λ (w : TileRow). w.extent) two);
    }
