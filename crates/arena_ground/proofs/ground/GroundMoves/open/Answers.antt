use Rattle.std.proofs.Common.{◌≡◌, [], None, sym, ap, ◌∙◌, subst, vec_capacity, arith}
use Rattle.part_words.specs.Extents.{AreOpen, extended}
use Rattle.chunk_image.specs.Rows.{TileRow, no_tiles}
use Rattle.arena_rules.specs.PlainArena.{Plain, HeapWindows, empty_bins}
use Rattle.arena_rules.specs.Heaps.{heap_start, opened_arena, unopened}
use Rattle.heap_top.specs.Regions.{arena_of, bare_arena}
use Rattle.arena_ground.proofs.Firsts.{none_first}
use Rattle.arena_ground.proofs.Heaping.{first_words, opened_done, opened_is_sound, IsOpened}
use Rattle.arena_ground.proofs.ground.GroundMoves.open.Goals as goal

pub open_heap-requires-clause-words : goal.open_heap-requires-clause-words
open_heap-requires-clause-words c =
    let w : HeapWindows = record { heap_max = c.args.heap_max; heaps = c.args.heaps } in
    let start : c.heap_start-start.result ≡ heap_start (unopened c.args.number w) 0 = c.heap_start-start.ensures ∙ ap (λ (x : Plain). heap_start x 0) c.in_ok-regions.ensures.arena in
    let tiles : c.open-3.new.self.tiles ≡ [] = ap (λ (x : TileRow). x.tiles) (c.in_ok-open-3.ensures.ok ∙ ap (λ (x : TileRow). record x { extent = extended x.extent c.heap_start-start.result c.args.len }) c.new-tiles.ensures) in
    let words : c.open-3.new.self.extent ≡ extended (no_tiles c.heap_start-start.result c.args.heap_max).extent c.heap_start-start.result c.args.len = ap (λ (x : TileRow). x.extent) (c.in_ok-open-3.ensures.ok ∙ ap (λ (x : TileRow). record x { extent = extended x.extent c.heap_start-start.result c.args.len }) c.new-tiles.ensures) in
    subst (λ e. AreOpen e (heap_start (bare_arena c.in_ok-regions.regions []) 0) c.args.len) (sym words) (subst (λ n. AreOpen (extended (no_tiles c.heap_start-start.result c.args.heap_max).extent c.heap_start-start.result c.args.len) n c.args.len) c.heap_start-start.ensures
    (first_words c.heap_start-start.result w c.args.len c.requires.windows c.requires.length))

pub invariant_of-result : goal.invariant_of-result
invariant_of-result c =
    let w : HeapWindows = record { heap_max = c.args.heap_max; heaps = c.args.heaps } in
    let start : c.heap_start-start.result ≡ heap_start (unopened c.args.number w) 0 = c.heap_start-start.ensures ∙ ap (λ (x : Plain). heap_start x 0) c.in_ok-regions.ensures.arena in
    let tiles : c.open-3.new.self.tiles ≡ [] = ap (λ (x : TileRow). x.tiles) (c.in_ok-open-3.ensures.ok ∙ ap (λ (x : TileRow). record x { extent = extended x.extent c.heap_start-start.result c.args.len }) c.new-tiles.ensures) in
    let words : c.open-3.new.self.extent ≡ extended (no_tiles c.heap_start-start.result c.args.heap_max).extent c.heap_start-start.result c.args.len = ap (λ (x : TileRow). x.extent) (c.in_ok-open-3.ensures.ok ∙ ap (λ (x : TileRow). record x { extent = extended x.extent c.heap_start-start.result c.args.len }) c.new-tiles.ensures) in
    let o : IsOpened c.open_heap.new.self c.open_heap.new.tiles c.open-2.new.self c.args.number w c.args.len c.heap_start-start.result = record {
      number = c.requires.other;
      below = c.requires.number;
      windows = c.requires.windows;
      length = c.requires.length;
      count = c.requires.count;
      arena = c.open_heap.ensures.arena empty_bins None ∙ ap (λ x. opened_arena x c.args.len) (ap (λ ts. arena_of c.in_ok-regions.regions ts empty_bins None) tiles ∙ c.in_ok-regions.ensures.arena);
      top = c.open_heap.ensures.top;
      closed = ap (λ v. v.items) c.open_heap.ensures.closed ∙ c.in_ok-regions.ensures.closed;
      room = omega (arith, c.in_ok-regions.ensures.room, ap (λ (x : Plain). x.windows.heaps) (c.open_heap.ensures.arena empty_bins None), ap (λ x. vec_capacity x) c.open_heap.ensures.closed);
      lists = c.open-2.ensures.lists ∙ c.in_ok-links.ensures.lists;
      starts = start;
      tiles = c.open_heap.ensures.extent ∙ words;
      links = c.in_ok-open-2.ensures.extent ∙ ap (λ e. extended e c.heap_start-start.result c.args.len) c.in_ok-links.ensures.extent;
    } in
    record { ground = (opened_done _ _ _ _ _ _ _ o).kept; firsts = none_first _ c.open-2.new.self c.open.new.self o.lists (c.open.ensures.lists ∙ c.in_ok-firsts.ensures.lists) ((c.in_ok-open.ensures.extent ∙ ap (λ e. extended e c.heap_start-start.result c.args.len) c.in_ok-firsts.ensures.extent) ∙ sym o.links) }

pub returns-clause-arena : goal.returns-clause-arena
returns-clause-arena c =
    let w : HeapWindows = record { heap_max = c.args.heap_max; heaps = c.args.heaps } in
    let start : c.heap_start-start.result ≡ heap_start (unopened c.args.number w) 0 = c.heap_start-start.ensures ∙ ap (λ (x : Plain). heap_start x 0) c.in_ok-regions.ensures.arena in
    let tiles : c.open-3.new.self.tiles ≡ [] = ap (λ (x : TileRow). x.tiles) (c.in_ok-open-3.ensures.ok ∙ ap (λ (x : TileRow). record x { extent = extended x.extent c.heap_start-start.result c.args.len }) c.new-tiles.ensures) in
    let words : c.open-3.new.self.extent ≡ extended (no_tiles c.heap_start-start.result c.args.heap_max).extent c.heap_start-start.result c.args.len = ap (λ (x : TileRow). x.extent) (c.in_ok-open-3.ensures.ok ∙ ap (λ (x : TileRow). record x { extent = extended x.extent c.heap_start-start.result c.args.len }) c.new-tiles.ensures) in
    let o : IsOpened c.open_heap.new.self c.open_heap.new.tiles c.open-2.new.self c.args.number w c.args.len c.heap_start-start.result = record {
      number = c.requires.other;
      below = c.requires.number;
      windows = c.requires.windows;
      length = c.requires.length;
      count = c.requires.count;
      arena = c.open_heap.ensures.arena empty_bins None ∙ ap (λ x. opened_arena x c.args.len) (ap (λ ts. arena_of c.in_ok-regions.regions ts empty_bins None) tiles ∙ c.in_ok-regions.ensures.arena);
      top = c.open_heap.ensures.top;
      closed = ap (λ v. v.items) c.open_heap.ensures.closed ∙ c.in_ok-regions.ensures.closed;
      room = omega (arith, c.in_ok-regions.ensures.room, ap (λ (x : Plain). x.windows.heaps) (c.open_heap.ensures.arena empty_bins None), ap (λ x. vec_capacity x) c.open_heap.ensures.closed);
      lists = c.open-2.ensures.lists ∙ c.in_ok-links.ensures.lists;
      starts = start;
      tiles = c.open_heap.ensures.extent ∙ words;
      links = c.in_ok-open-2.ensures.extent ∙ ap (λ e. extended e c.heap_start-start.result c.args.len) c.in_ok-links.ensures.extent;
    } in
    (opened_done _ _ _ _ _ _ _ o).is

pub returns-clause-sound : goal.returns-clause-sound
returns-clause-sound c =
    let w : HeapWindows = record { heap_max = c.args.heap_max; heaps = c.args.heaps } in
    let start : c.heap_start-start.result ≡ heap_start (unopened c.args.number w) 0 = c.heap_start-start.ensures ∙ ap (λ (x : Plain). heap_start x 0) c.in_ok-regions.ensures.arena in
    let tiles : c.open-3.new.self.tiles ≡ [] = ap (λ (x : TileRow). x.tiles) (c.in_ok-open-3.ensures.ok ∙ ap (λ (x : TileRow). record x { extent = extended x.extent c.heap_start-start.result c.args.len }) c.new-tiles.ensures) in
    let words : c.open-3.new.self.extent ≡ extended (no_tiles c.heap_start-start.result c.args.heap_max).extent c.heap_start-start.result c.args.len = ap (λ (x : TileRow). x.extent) (c.in_ok-open-3.ensures.ok ∙ ap (λ (x : TileRow). record x { extent = extended x.extent c.heap_start-start.result c.args.len }) c.new-tiles.ensures) in
    let o : IsOpened c.open_heap.new.self c.open_heap.new.tiles c.open-2.new.self c.args.number w c.args.len c.heap_start-start.result = record {
      number = c.requires.other;
      below = c.requires.number;
      windows = c.requires.windows;
      length = c.requires.length;
      count = c.requires.count;
      arena = c.open_heap.ensures.arena empty_bins None ∙ ap (λ x. opened_arena x c.args.len) (ap (λ ts. arena_of c.in_ok-regions.regions ts empty_bins None) tiles ∙ c.in_ok-regions.ensures.arena);
      top = c.open_heap.ensures.top;
      closed = ap (λ v. v.items) c.open_heap.ensures.closed ∙ c.in_ok-regions.ensures.closed;
      room = omega (arith, c.in_ok-regions.ensures.room, ap (λ (x : Plain). x.windows.heaps) (c.open_heap.ensures.arena empty_bins None), ap (λ x. vec_capacity x) c.open_heap.ensures.closed);
      lists = c.open-2.ensures.lists ∙ c.in_ok-links.ensures.lists;
      starts = start;
      tiles = c.open_heap.ensures.extent ∙ words;
      links = c.in_ok-open-2.ensures.extent ∙ ap (λ e. extended e c.heap_start-start.result c.args.len) c.in_ok-links.ensures.extent;
    } in
    opened_is_sound _ _ _ _ _ _ _ o
