use Rattle.std.proofs.Common.{◌≡◌, ◌<◌, ◌≤◌, ap, sym, ◌∙◌, subst, arith, ltb-true, map}
use Rattle.part_words.proofs.Opening.{IsOpen-covers}
use Rattle.part_words.specs.Extents.{IsOpen}
use Rattle.ordinary_bins.specs.Lists.{list_at, times_in, times_listed, without}
use Rattle.ordinary_bins.proofs.ListLaws.{unlinked_itself, within}
use Rattle.large_bins.specs.FirstChunks.{AreFirsts}
use Rattle.large_bins.specs.SeenChunks.{size_at}
use Rattle.large_bins.proofs.FirstBins.{firsts_fronted, firsts_unsorted}
use Rattle.arena_rules.proofs.Changes.{tile_is}
use Rattle.arena_rules.proofs.Rows.{addr_at}
use Rattle.arena_ground.specs.Grounds.{bins_at}
use Rattle.arena_ground.proofs.Bridges.{open_here}
use Rattle.arena_ground.proofs.Sorting.{tiles_without}
use Rattle.arena_ground.proofs.steps.sort_in.Goals as goal
use Rattle.arena_ground.proofs.steps.sort_in.Goals.{After-unlink}

pub push_front-requires-clause-word : goal.push_front-requires-clause-word
push_front-requires-clause-word c =
    let word = IsOpen-covers _ _ _ c.requires.covers (open_here _ _ _ _ c.requires.row c.tile-t.ensures.tile c.tile-t.ensures.room) in
    rw c.unlink.ensures.extent (subst (IsOpen c.args.links.now.extent) (sym (addr_at _ _ _ c.tile-t.ensures.tile)) word)

pub push_front-requires-clause-unlisted : goal.push_front-requires-clause-unlisted
push_front-requires-clause-unlisted c = rw c.unlink.ensures.lists (unlinked_itself c.tile-t.result.addr c.args.links.now.lists)

pub insert-requires-clause-word : goal.insert-requires-clause-word
insert-requires-clause-word c =
    let word = IsOpen-covers _ _ _ c.requires.covers (open_here _ _ _ _ c.requires.row c.tile-t.ensures.tile c.tile-t.ensures.room) in
    rw c.unlink.ensures.extent (subst (IsOpen c.args.links.now.extent) (sym (addr_at _ _ _ c.tile-t.ensures.tile)) word)

pub insert-requires-clause-unlisted : goal.insert-requires-clause-unlisted
insert-requires-clause-unlisted c = rw c.unlink.ensures.lists (unlinked_itself c.tile-t.result.addr c.args.links.now.lists)

pub insert-requires-clause-tiles : goal.insert-requires-clause-tiles
insert-requires-clause-tiles c =
    rw c.unlink.ensures.lists (tiles_without c.args.tiles.now.tiles c.tile-t.result.addr c.args.links.now.lists c.requires.tiles)

pub push_front-requires-clause-used : goal.push_front-requires-clause-used
push_front-requires-clause-used c =
    let tile = tile_is _ _ c.requires.row c.requires.tile in
    let same : c.tile-t.result.size ≡ c.args.c.size = cc in
    omega (arith, tile.size.0, same, c.small_index.ensures)

pub unlink-requires : goal.unlink-requires
unlink-requires c =
    let here = addr_at c.args.c.at c.tile-t.result c.args.tiles.now.tiles c.tile-t.ensures.tile in
    omega (arith, c.requires.unsorted, within c.args.c.at 1 c.args.links.now.lists, ap (λ n. times_listed n c.args.links.now.lists) here)

rest : (c : After-unlink) → AreFirsts (bins_at c.args.tiles.now.tiles (map (without c.tile-t.result.addr) c.args.links.now.lists)) c.args.firsts.now.lists
rest c =
    let at = c.tile-t.result.addr in
    let lists = c.args.links.now.lists in
    let here = addr_at c.args.c.at c.tile-t.result c.args.tiles.now.tiles c.tile-t.ensures.tile in
    let stands : 1 ≤ times_in at (list_at 1 lists) = omega (arith, c.requires.unsorted, ap (λ n. times_in n (list_at 1 lists)) here) in
    firsts_unsorted (size_at c.args.tiles.now.tiles) lists at c.requires.firsts.each c.laws.ensures.width (c.laws.ensures.once at) stands

pub insert-requires-clause-firsts : goal.insert-requires-clause-firsts
insert-requires-clause-firsts c = rw c.unlink.ensures.lists (rest (goal.at.insert-requires-clause-firsts c).After-unlink)

pub insert-requires-clause-wider : goal.insert-requires-clause-wider
insert-requires-clause-wider c = rw c.unlink.ensures.extent c.requires.firsts.wider

pub returns-then-is_small-clause-firsts : goal.returns-then-is_small-clause-firsts
returns-then-is_small-clause-firsts c =
    let small : c.tile-t.result.size < 1024 = ltb-true c.tile-t.result.size 1024 (sym c.is_small.ensures ∙ c.if-is_small.true) in
    record {
      each = rw (c.push_front.ensures.lists, c.unlink.ensures.lists) (firsts_fronted (size_at c.args.tiles.now.tiles) _ c.small_index.result c.tile-t.result.addr (rest (goal.at.returns-then-is_small-clause-firsts c).After-unlink) (omega (arith, small, c.small_index.ensures)));
      wider = rw (c.push_front.ensures.extent, c.unlink.ensures.extent) c.requires.firsts.wider;
    }

pub returns-else-is_small-clause-firsts : goal.returns-else-is_small-clause-firsts
returns-else-is_small-clause-firsts c = record {
  each = c.insert.ensures.firsts;
  wider = rw (c.insert.ensures.extent, c.unlink.ensures.extent, c.insert.ensures.open) c.requires.firsts.wider;
}
