use Rattle.std.proofs.Common.{sym, arith}
use Rattle.arena_rules.proofs.HeapTiles.{bytes_bounded}
use Rattle.heap_top.specs.Regions.{arena_of, bare_arena}
use Rattle.heap_top.proofs.DropLaws.{heap_end, before_fence, top_stands, dropped_has_top, dropped_is, some_closed}
use Rattle.heap_top.proofs.regions.Regions.drop_heap.Goals as goal

pub reopen-requires-clause-fence : goal.reopen-requires-clause-fence
reopen-requires-clause-fence c =
    (heap_end (bare_arena c.args.self.now c.args.tiles.now.tiles) _ c.args.end.now c.requires.heaps.known.row (sym c.in-Some.ensures.top) c.requires.end).next.first

pub reopen-requires-clause-before : goal.reopen-requires-clause-before
reopen-requires-clause-before c = λ u is.
    let a = bare_arena c.args.self.now c.args.tiles.now.tiles in
    before_fence a _ u c.args.end.now (omega (arith, bytes_bounded a c.args.self.now.closed.items c.requires.heaps.placed))
    (heap_end a _ c.args.end.now c.requires.heaps.known.row (sym c.in-Some.ensures.top) c.requires.end) is

pub remove-requires : goal.remove-requires
remove-requires c =
    let a = bare_arena c.args.self.now c.args.tiles.now.tiles in
    rw c.reopen.ensures.tiles (top_stands a _ c.args.end.now (heap_end a _ c.args.end.now c.requires.heaps.known.row (sym c.in-Some.ensures.top) c.requires.end))

pub drop_last-requires : goal.drop_last-requires
drop_last-requires c =
    some_closed (bare_arena c.args.self.now c.args.tiles.now.tiles) c.args.self.now.closed.items c.args.end.now c.requires.heaps.known.row c.requires.heaps.placed c.requires.end

pub returns-in-Some-clause-top : goal.returns-in-Some-clause-top
returns-in-Some-clause-top c =
    let a = bare_arena c.args.self.now c.args.tiles.now.tiles in
    rw (c.remove.ensures, c.reopen.ensures.tiles, c.reopen.ensures.start) (dropped_has_top a _ c.args.end.now (heap_end a _ c.args.end.now c.requires.heaps.known.row (sym c.in-Some.ensures.top) c.requires.end))

pub returns-in-Some-clause-arena : goal.returns-in-Some-clause-arena
returns-in-Some-clause-arena c = λ bins last.
    let a = arena_of c.args.self.now c.args.tiles.now.tiles bins last in
    let is = dropped_is a _ c.args.end.now (heap_end a _ c.args.end.now c.requires.heaps.known.row (sym c.in-Some.ensures.top) c.requires.end) in
    rw (c.remove.ensures, c.reopen.ensures.tiles, c.last_length-length.ensures) is
