use Rattle.std.proofs.Common.{refl}
use Rattle.heap_top.specs.Regions.{arena_of}
use Rattle.heap_top.proofs.TopLaws.{closed_tiles_none, entered_here, moved_is}
use Rattle.heap_top.proofs.regions.Regions.move_top.Goals as goal

pub enter-requires-clause-none : goal.enter-requires-clause-none
enter-requires-clause-none c = rw c.close_top-rest.ensures.tiles (closed_tiles_none _ _ c.requires.known.row c.requires.free)

pub returns-clause-top : goal.returns-clause-top
returns-clause-top c =
    rw (c.enter.ensures, c.close_top-rest.ensures.tiles) (record {
      at = c.args.at;
      size = c.args.size;
      known = refl;
      stands = entered_here _ _ (closed_tiles_none _ _ c.requires.known.row c.requires.free);
    })

pub returns-clause-arena : goal.returns-clause-arena
returns-clause-arena c = λ bins last.
    rw (c.enter.ensures, c.close_top-rest.ensures.tiles) (moved_is (arena_of c.args.self.now c.args.tiles.now.tiles bins last) c.args.at c.args.size)
