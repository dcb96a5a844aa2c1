use Rattle.std.proofs.Common.{◌≡◌, ◌+◌, length, refl, sym, ap, ◌∙◌, subst, arith}
use Rattle.part_words.specs.Extents.{AreOpen}
use Rattle.part_words.proofs.Opening.{AreOpen-drop}
use Rattle.arena_rules.specs.Heaps.{heap_start, last_heap}
use Rattle.heap_top.specs.Regions.{bare_arena}
use Rattle.arena_rules.proofs.HeapRanges.{start_next, windows_end}
use Rattle.arena_rules.proofs.HeapTiles.{bare_behind, system_bounded}
use Rattle.heap_top.proofs.regions.Regions.add_heap.Goals as goal

pub overflow_add-self : goal.overflow_add-self
overflow_add-self c =
    let placed = c.requires.heaps.placed in
    omega (arith, system_bounded _ _ placed, c.requires.range.length.window, placed.windows.most)

pub move_top-requires-clause-free : goal.move_top-requires-clause-free
move_top-requires-clause-free c =
    let a = bare_arena c.args.self.now c.args.tiles.now.tiles in
    let closed = c.args.self.now.closed.items in
    let placed = c.requires.heaps.placed in
    let start : c.heap_start-start.result ≡ heap_start a (c.count_closed.result + 1) = c.heap_start-start.ensures in
    bare_behind a closed (c.heap_start-start.result + 32) placed
    (omega (arith, start, ap (λ n. heap_start a (n + 1)) c.count_closed.ensures, start_next a (length closed), placed.last.window))

pub move_top-requires-clause-room : goal.move_top-requires-clause-room
move_top-requires-clause-room c =
    let a = bare_arena c.args.self.now c.args.tiles.now.tiles in
    let e = c.args.tiles.now.extent in
    let placed = c.requires.heaps.placed in
    let range = c.requires.range in
    let start : c.heap_start-start.result ≡ heap_start a (last_heap a + 1) = c.heap_start-start.ensures ∙ ap (λ n. heap_start a (n + 1)) (c.count_closed.ensures ∙ sym placed.top) in
    let words : AreOpen e c.heap_start-start.result c.args.len = subst (λ n. AreOpen e n c.args.len) (sym start) range.words in
    record {
      words = AreOpen-drop e c.heap_start-start.result c.args.len 32 refl words;
      end = omega (arith, start, range.length.window, range.length.some, placed.windows.most, windows_end a (last_heap a + 1) placed.windows placed.number range.window);
    }
