use Rattle.std.proofs.Common.{◌+◌, refl, arith}
use Rattle.arena_rules.specs.PlainArena.{Plain}
use Rattle.heap_top.specs.Regions.{arena_of, bare_arena}
use Rattle.arena_rules.proofs.HeapTiles.{bytes_bounded, system_bounded}
use Rattle.heap_top.proofs.TopLaws.{grown_top_fits}
use Rattle.heap_top.proofs.regions.Regions.extend_heap.Goals as goal

pub overflow_add-self : goal.overflow_add-self
overflow_add-self c =
    let placed = c.requires.heaps.placed in
    omega (arith, system_bounded _ _ placed, c.requires.range.window, placed.windows.most)

pub extend_top-requires-clause-fits : goal.extend_top-requires-clause-fits
extend_top-requires-clause-fits c =
    let placed = c.requires.heaps.placed in
    grown_top_fits (bare_arena c.args.self.now c.args.tiles.now.tiles) c.args.growth c.requires.heaps.known.row c.requires.range.pages
    (omega (arith, bytes_bounded _ _ placed, c.requires.range.window, placed.windows.most))

pub returns-clause-arena : goal.returns-clause-arena
returns-clause-arena c = λ bins last.
    let a : Plain = arena_of c.args.self.now c.args.tiles.now.tiles bins last in
    c.extend_top.ensures.arena (record a { system = a.system + c.args.growth }) refl
