use Rattle.std.proofs.Common.{None, Some, sym, ap, ◌∙◌}
use Rattle.chunk_tags.specs.BinOrder.{oldest_of}
use Rattle.ordinary_bins.specs.Lists.{list_at}
use Rattle.arena_ground.specs.Grounds.{chunks_at}
use Rattle.arena_ground.proofs.Sorting.{first_at, first_below}
use Rattle.arena_ground.proofs.steps.first_oldest_from.Goals as goal

pub oldest_in-requires-clause-bin : goal.oldest_in-requires-clause-bin
oldest_in-requires-clause-bin c = first_below c.args.links.now.lists c.args.bin c.in-Some.found (sym c.in-Some.ensures) c.requires.bin c.laws.ensures.width

pub returns-in-None : goal.returns-in-None
returns-in-None c =
    ap (λ o. elim o [ None ↦ None | Some b ↦ oldest_of (chunks_at c.args.tiles.now.tiles (list_at b c.args.links.now.lists)) ]) c.in-None.ensures
    ∙ first_at c.args.tiles.now.tiles c.args.links.now.lists c.args.bin

pub returns-in-Some : goal.returns-in-Some
returns-in-Some c =
    c.oldest_in.ensures
    ∙ (ap (λ o. elim o [ None ↦ None | Some b ↦ oldest_of (chunks_at c.args.tiles.now.tiles (list_at b c.args.links.now.lists)) ]) c.in-Some.ensures
    ∙ first_at c.args.tiles.now.tiles c.args.links.now.lists c.args.bin)
