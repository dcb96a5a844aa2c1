use Rattle.std.proofs.Common.{ℕ, ◌≡◌, List, Option, Some, subst, sym, ap, ◌∙◌}
use Rattle.std.specs.Option.{option_map, unwrap_or}
use Rattle.chunk_tags.specs.BinOrder.{best_of}
use Rattle.chunk_tags.specs.Sizes.{large_index_of}
use Rattle.chunk_tags.specs.declared.tiles.Chunk.{Chunk}
use Rattle.ordinary_bins.specs.Lists.{list_at}
use Rattle.ordinary_bins.proofs.ListLaws.{listed_in}
use Rattle.large_bins.specs.Places.{AllBelow, FitsLast}
use Rattle.large_bins.specs.SeenChunks.{size_at, chunks_by}
use Rattle.large_bins.proofs.FirstBins.{firsts_listed, firsts_tiles, large_firsts}
use Rattle.large_bins.proofs.FirstLaws.{leads_at, leads_below}
use Rattle.large_bins.proofs.Fitting.{best_is, none_best}
use Rattle.large_bins.proofs.Turns.{large_above, large_below}
use Rattle.large_bins.proofs.bins.best.Goals as goal

pub last_fitting-requires-clause-tiles : goal.last_fitting-requires-clause-tiles
last_fitting-requires-clause-tiles c = firsts_tiles (size_at c.args.tiles.now.tiles) c.args.links.now.lists c.requires.firsts c.requires.tiles

pub returns-in_err-first : goal.returns-in_err-first
returns-in_err-first c =
    let f = size_at c.args.tiles.now.tiles in
    let bin = large_index_of c.args.nb in
    let none : AllBelow f c.args.nb (list_at bin c.args.firsts.now.lists) = rw (c.large_index.ensures, c.nb.view_is) at c.in_err-first.ensures.none in
    let all = leads_below f c.args.nb (list_at bin c.args.links.now.lists) (subst (AllBelow f c.args.nb) (large_firsts f c.args.links.now.lists c.requires.firsts bin (large_above c.args.nb c.requires.large)) none) in
    c.from_residual.ensures ∙ sym (ap (option_map (λ (c : Chunk). c.at)) (none_best f c.args.nb _ all))

pub equal_behind-requires-clause-listed : goal.equal_behind-requires-clause-listed
equal_behind-requires-clause-listed c =
    let h = c.in_ok-first.ensures.last in
    firsts_listed (size_at c.args.tiles.now.tiles) c.args.links.now.lists c.requires.firsts c.in_ok-first.first (listed_in c.in_ok-first.first c.large_index.result c.args.firsts.now.lists h.front h.back h.split)

pub returns : goal.returns
returns c =
    let f = size_at c.args.tiles.now.tiles in
    let bin = large_index_of c.args.nb in
    let first = c.in_ok-first.first in
    let h : FitsLast f c.args.nb (list_at bin c.args.firsts.now.lists) first = rw (c.large_index.ensures, c.nb.view_is) at c.in_ok-first.ensures.last in
    let l = leads_at f first (list_at bin c.args.links.now.lists) h.front h.back c.requires.falling (sym (large_firsts f c.args.links.now.lists c.requires.firsts bin (large_above c.args.nb c.requires.large)) ∙ h.split) in
    let second = c.equal_behind.ensures bin l.front l.back (large_below c.args.nb) l.split in
    let best = ap (λ (ys : List ℕ). option_map (λ (d : Chunk). d.at) (best_of c.args.nb (chunks_by f ys))) l.split ∙ best_is f c.args.nb first l.front l.back h.fits l.greater l.falls (subst (AllBelow f c.args.nb) l.behind_is h.below) in
    ap Some (c.unwrap_or.ensures ∙ ap (λ o. unwrap_or o first) second) ∙ sym best
