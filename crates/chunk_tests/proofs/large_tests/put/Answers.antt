use Rattle.std.proofs.Common.{◌≡◌, ◌<◌, ◌≤◌, ap, subst, sym}
use Rattle.large_bins.specs.SeenChunks.{size_at, size_in}
use Rattle.chunk_tests.proofs.LargeScenes.{IsPut, put}
use Rattle.chunk_tests.proofs.large_tests.put.Goals as goal

pub returns : goal.returns
returns c =
    let is : size_at c.args.tiles.now.tiles c.args.at ≡ c.tile-size.result.size = ap size_in c.tile-size.ensures.tile in
    let p = put c.args.tiles.now.tiles c.args.at c.tile-size.result.size c.args.links.now.lists is (subst (λ n. 1984 ≤ n) is c.requires.least) (subst (λ n. n < 2048) is c.requires.most) c.laws.ensures.width c.requires.stands c.requires.tiles c.requires.falling in
    let q = subst (IsPut c.args.tiles.now.tiles c.args.at c.args.links.now.lists) (sym c.insert.ensures.lists) p in
    record { listed = q.listed; tiles = q.tiles; falling = q.falls; extent = c.insert.ensures.extent; firsts = c.insert.ensures.firsts; wider = rw (c.insert.ensures.extent, c.insert.ensures.open) c.requires.wider }
