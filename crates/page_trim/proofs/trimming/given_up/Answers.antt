use Rattle.std.proofs.Common.{sym, subst, arith}
use Rattle.std.specs.List.{All, AllByRecursion}
use Rattle.chunk_tags.specs.Tiles.{end_of}
use Rattle.page_trim.specs.FreePages.{free_pages, pages_in, IsIdle}
use Rattle.page_trim.proofs.Pages.{tiles_low, pages_few, all_idle}
use Rattle.page_trim.proofs.trimming.given_up.Goals as goal

pub free_pages-requires : goal.free_pages-requires
free_pages-requires c =
    let low = tiles_low c.args.g.now.arena c.requires.row c.laws.ensures.main c.laws.ensures.heaps in
    rw (c.as_slice.ensures.value, c.in_ok-tiles.ensures) low

pub count_pages-pages-requires : goal.count_pages-pages-requires
count_pages-pages-requires c =
    let few = pages_few c.args.g.now.arena c.laws.ensures.main c.laws.ensures.heaps in
    rw (c.as_slice-2.ensures.value, c.in_ok-ranges.ensures.pages, c.as_slice.ensures.value, c.in_ok-tiles.ensures) (omega (arith, few, c.system-system.ensures))

pub returns-clause-idle : goal.returns-clause-idle
returns-clause-idle c =
    rw (c.in_ok-ranges.ensures.pages, c.as_slice.ensures.value, c.in_ok-tiles.ensures) (all_idle c.args.g.now.arena.tiles c.requires.row)
