use Rattle.std.proofs.Common.{◌≡◌, arith}
use Rattle.part_words.proofs.Opening.{Covers-same}
use Rattle.ordinary_bins.specs.Lists.{empty_lists, times_listed}
use Rattle.ordinary_bins.proofs.ListLaws.{none_listed}
use Rattle.large_bins.specs.SeenChunks.{size_at}
use Rattle.large_bins.proofs.FirstBins.{no_firsts}
use Rattle.large_bins.proofs.LargeLaws.{no_tiles_needed}
use Rattle.chunk_tests.proofs.large_tests.equals_and_others_in_order.Goals as goal

pub put-requires-clause-unlisted : goal.put-requires-clause-unlisted
put-requires-clause-unlisted g c = rw c.in_ok-links.ensures.lists (none_listed 4096)

pub put-requires-clause-tiles : goal.put-requires-clause-tiles
put-requires-clause-tiles g c = rw c.in_ok-links.ensures.lists (no_tiles_needed c.in_ok-tiles.tiles.tiles)

pub put-requires-clause-falling : goal.put-requires-clause-falling
unfolding empty_lists
put-requires-clause-falling g c = rw c.in_ok-links.ensures.lists tt

pub put-requires-2-clause-unlisted : goal.put-requires-2-clause-unlisted
put-requires-2-clause-unlisted g c =
    let none : times_listed 6112 c.in_ok-links.links.lists ≡ 0 = rw c.in_ok-links.ensures.lists (none_listed 6112) in
    omega (arith, none, c.put.ensures.listed 6112)

pub put-requires-3-clause-unlisted : goal.put-requires-3-clause-unlisted
put-requires-3-clause-unlisted g c =
    let none : times_listed 8128 c.in_ok-links.links.lists ≡ 0 = rw c.in_ok-links.ensures.lists (none_listed 8128) in
    omega (arith, none, c.put.ensures.listed 8128, c.put-2.ensures.listed 8128)

pub put-requires-4-clause-unlisted : goal.put-requires-4-clause-unlisted
put-requires-4-clause-unlisted g c =
    let none : times_listed 10144 c.in_ok-links.links.lists ≡ 0 = rw c.in_ok-links.ensures.lists (none_listed 10144) in
    omega (arith, none, c.put.ensures.listed 10144, c.put-2.ensures.listed 10144, c.put-3.ensures.listed 10144)

pub put-requires-5-clause-unlisted : goal.put-requires-5-clause-unlisted
put-requires-5-clause-unlisted g c =
    let none : times_listed 12176 c.in_ok-links.links.lists ≡ 0 = rw c.in_ok-links.ensures.lists (none_listed 12176) in
    omega (arith, none, c.put.ensures.listed 12176, c.put-2.ensures.listed 12176, c.put-3.ensures.listed 12176, c.put-4.ensures.listed 12176)

pub put-requires-clause-firsts : goal.put-requires-clause-firsts
put-requires-clause-firsts g c = rw (c.in_ok-links.ensures.lists, c.in_ok-firsts.ensures.lists) (no_firsts (size_at c.in_ok-tiles.tiles.tiles))

pub put-requires-clause-wider : goal.put-requires-clause-wider
put-requires-clause-wider g c = rw (c.in_ok-links.ensures.extent, c.in_ok-firsts.ensures.extent) (Covers-same _)
